-- A command has one answer, but that memory may be refused: the statements of the laws in
-- `src/laws.rt`.
use Rattle.std.specs.Prelude.{◌≡◌, ◌≢◌, ℕ, List}
use Rattle.pim_addr.specs.declared.family.AddressFamily.{AddressFamily}
use Rattle.pim_request.specs.declared.command.Packet.{Packet}
use Rattle.pim_request.specs.declared.command.AnyWriting.{AnyWriting}
use Rattle.pim_request.specs.declared.command.KeptWhat.{KeptWhat as Keeping}
use Rattle.pim_request.specs.declared.command.Comparison.{Comparison}
use Rattle.pim_router.specs.State.{RouterState}
use Rattle.pim_answers.specs.declared.packets.FromText.{FromText}
use Rattle.pim_answers.specs.Demanding.{AnswersMessages, AnswersKeep, AnswersChange, AnswersSame}
use Rattle.pim_answers.specs.Kept.{Kept}
use Rattle.pim_answers.specs.Lines.{memory_line}
use Rattle.pim_answers.specs.Packets.{AnswersPacket, AnswersFrom}
use Rattle.pim_answers.specs.Running.{AnswersRun}
use Rattle.pim_answers.specs.Reports.{AnswersNext, AnswersWants}

-- Two answers of this command, neither of them `memory`, are the same, and lead to the same state.
abbrev pub OneAnswer : {S : Type 0} → (List ℕ → S → Type 0) → Type 0
OneAnswer {S} Does = (text other : List ℕ) (after end : S) → Does text after → Does other end →
    text ≢ memory_line → other ≢ memory_line → (text ≡ other) × (after ≡ end)

-- The same of a command that changes nothing.
abbrev pub OneText : (List ℕ → Type 0) → Type 0
OneText Says = (text other : List ℕ) → Says text → Says other → text ≢ memory_line → other ≢ memory_line → text ≡ other

-- ---- laws

-- `run`
abbrev pub OneRun : Type 0
OneRun = (family : AddressFamily) (moment : ℕ) (router : RouterState) → OneAnswer (AnswersRun family moment router)

-- `packet`
abbrev pub OnePacket : Type 0
OnePacket = (family : AddressFamily) (packet : Packet) (router : RouterState) → OneAnswer (AnswersPacket family packet router)

-- `from`
abbrev pub OneFrom : Type 0
OneFrom = (family : AddressFamily) (from : FromText) (router : RouterState) → OneAnswer (AnswersFrom family from router)

-- `keep`
abbrev pub OneKeep : Type 0
OneKeep = (family : AddressFamily) (keeping : Keeping) (router : RouterState) (kept : List Kept) →
    OneAnswer (AnswersKeep family keeping router kept)

-- `next`
abbrev pub OneNext : Type 0
OneNext = (router : RouterState) → OneText (AnswersNext router)

-- `wants`
abbrev pub OneWants : Type 0
OneWants = (family : AddressFamily) (router : RouterState) → OneText (AnswersWants family router)

-- `messages`
abbrev pub OneMessages : Type 0
OneMessages = (family : AddressFamily) (writing : AnyWriting) (router : RouterState) → OneText (AnswersMessages family writing router)

-- `change`
abbrev pub OneChange : Type 0
OneChange = (family : AddressFamily) (comparison : Comparison) (router : RouterState) (kept : List Kept) →
    OneText (AnswersChange family comparison router kept)

-- `same`
abbrev pub OneSame : Type 0
OneSame = (family : AddressFamily) (comparison : Comparison) (router : RouterState) (kept : List Kept) →
    OneText (AnswersSame family comparison router kept)
