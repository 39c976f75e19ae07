-- The task that the options and words of a command give, with addresses of either family, or what
-- can't be read.
use Rattle.std.specs.Prelude.{◌≡◌, ◌⊎◌, ⊤, true, false, List, [], ◌∷◌, Option, Some, None, codes, option_map}
use Rattle.std.specs.Prelude.{IfSome, IsSomeAnd}
use Rattle.std.specs.Borrow.{Bor}
use Rattle.clap.specs.Words.{Row, Text, first_of}
use Rattle.pim_lines.specs.declared.either.AnyAddress.{AnyAddress}
use Rattle.pim_words.specs.declared.fault.CommandFault.{CommandFault}
use Rattle.pim_words.specs.declared.fault.CommandFault.TheVariants as cause
use Rattle.pim_words.specs.declared.links.Links.{Links}
use Rattle.pim_words.specs.declared.task.Auditing.{Auditing}
use Rattle.pim_words.specs.declared.task.Captures.{Captures}
use Rattle.pim_words.specs.declared.task.More.{More}
use Rattle.pim_words.specs.declared.task.Port.{Port}
use Rattle.pim_words.specs.declared.task.Tracing.{Tracing}
use Rattle.pim_words.specs.declared.task.Writing.{Writing}
use Rattle.pim_words.specs.declared.task.CommandKind.{CommandKind}
use Rattle.pim_words.specs.declared.task.CommandKind.TheVariants as kind
use Rattle.pim_words.specs.declared.task.Task.{Task}
use Rattle.pim_words.specs.declared.task.Task.TheVariants.{Check, CheckPartial, Build, Replay, Trace, Audit, Same, Mirror, Emit, Change}
use Rattle.pim_lines.specs.AnyAddress.{Names, IsRead}
use Rattle.pim_words.specs.Ends.{are_both_given, has_two_ends, time_text, IsTimed, IsEarly, IsUntimed, IsTimely}
use Rattle.pim_words.specs.Given.{IsNumber, address_texts, is_flag, option_or, required, rp_text, words_of}
use Rattle.pim_words.specs.Given.{source_text, destination_text}
use Rattle.pim_words.specs.Labels.{AreLabelled, IsFirstWrong}
use Rattle.pim_words.specs.Links.{AreChosenLinks, AreLinkedFrom, AreWrongChoices}
use Rattle.pim_words.specs.Ports.{AreMore, port_words}
use Rattle.pim_words.specs.Shown.{IsShown, IsShowable, IsUnreadText, IsWrongShown, shown_of}

-- ---- what is read

-- An option that is given names this address; an option that isn't given names none.
abbrev pub ReadsAddressOption : Option Text → Option AnyAddress → Type 0
ReadsAddressOption None None = ⊤
ReadsAddressOption (Some text) (Some address) = Names text address
ReadsAddressOption given read = ⊥

-- The options of a run other than the RP.
pub record IsRun (rows : List Row) (captures : Captures AnyAddress) : Type 0 where
  pub routes : option_map (λ name. name.now) captures.routes ≡ first_of (codes "routes") rows
  pub limit : IsNumber 1 100000 (option_or (codes "100000") (codes "limit") rows) captures.limit
  pub after : IsNumber 0 1000000000 (option_or (codes "0") (codes "after") rows) captures.after_ms
  pub at : IsTimed (time_text rows) captures.at
  pub early : IsEarly captures.at
  pub one_end : are_both_given rows ≡ false

-- The words name these ports, with these names, the links that the options choose, and these
-- further files.
pub record ArePorts (command : CommandKind) (rows : List Row) (ports : List (Port AnyAddress)) (more : List More)
    (names : List (Option (Bor Text))) : Type 0 where
  pub links : Links
  pub chosen : AreChosenLinks command rows links
  pub labelled : AreLabelled command (port_words links.is_any (words_of rows)) ports names
  pub linked : AreLinkedFrom links 0 ports
  pub further : AreMore links.is_any (words_of rows) more

-- The options of a run other than the RP, and the ports and further files that the words name.
pub record AreCaptures (command : CommandKind) (rows : List Row) (captures : Captures AnyAddress) : Type 0 where
  pub run : IsRun rows captures
  pub names : List (Option (Bor Text))
  pub ports : ArePorts command rows captures.ports.items captures.more.items names

-- The options of a trace or an audit, and the ports with their names and further files.
pub record AreTraced (command : CommandKind) (rows : List Row) (captures : Captures AnyAddress)
    (tracing : Tracing AnyAddress) : Type 0 where
  pub run : IsRun rows captures
  pub shown : IsShown rows (shown_of tracing)
  pub all : tracing.all ≡ is_flag (codes "all") rows
  pub state : tracing.state ≡ is_flag (codes "state") rows
  pub json : tracing.json ≡ is_flag (codes "json") rows
  pub ports : ArePorts command rows captures.ports.items captures.more.items tracing.names.items

-- The upstream neighbour of an audit, its file of local joins, and the time for which an entry may
-- be due.
pub record IsAuditing (rows : List Row) (auditing : Auditing AnyAddress) : Type 0 where
  pub upstream : Names (required (codes "upstream") rows) auditing.upstream
  pub local : option_map (λ name. name.now) auditing.local ≡ first_of (codes "local") rows
  pub grace : IsNumber 0 1000000000 (option_or (codes "3000") (codes "grace") rows) auditing.grace_ms

-- The options of the writer.
pub record IsWriting (rows : List Row) (writing : Writing AnyAddress) : Type 0 where
  pub upstream : Names (required (codes "upstream") rows) writing.upstream
  pub own : Names (required (codes "own") rows) writing.own
  pub holdtime : IsNumber 99 65535 (option_or (codes "210") (codes "holdtime") rows) writing.holdtime
  pub budget : IsNumber 70 65000 (option_or (codes "1460") (codes "budget") rows) writing.budget

-- The options and ports of a command with captures.
abbrev pub AreCapturesOf : CommandKind → List Row → Captures AnyAddress → Type 0
AreCapturesOf command rows captures =
    ReadsAddressOption (rp_text command rows) captures.rp × AreCaptures command rows captures

-- The command was given this task.
abbrev pub IsTask : CommandKind → List Row → Task AnyAddress → Type 0
IsTask kind.Check rows (Check source destination) =
    Names (source_text rows) source × Names (destination_text rows) destination × (is_flag (codes "partial") rows ≡ false)
IsTask kind.Check rows (CheckPartial source destination) =
    Names (source_text rows) source × Names (destination_text rows) destination × (is_flag (codes "partial") rows ≡ true)
IsTask kind.Build rows (Build source destination) =
    Names (source_text rows) source × Names (destination_text rows) destination
IsTask kind.Replay rows (Replay captures) = AreCapturesOf kind.Replay rows captures
IsTask kind.Trace rows (Trace captures tracing) =
    ReadsAddressOption (rp_text kind.Trace rows) captures.rp × AreTraced kind.Trace rows captures tracing
IsTask kind.Audit rows (Audit captures auditing tracing) =
    ReadsAddressOption (rp_text kind.Audit rows) captures.rp × AreTraced kind.Audit rows captures tracing
    × IsAuditing rows auditing
IsTask kind.Same rows (Same captures writing) = AreCapturesOf kind.Same rows captures × IsWriting rows writing
IsTask kind.Mirror rows (Mirror captures writing) = AreCapturesOf kind.Mirror rows captures × IsWriting rows writing
IsTask kind.Emit rows (Emit captures writing) = AreCapturesOf kind.Emit rows captures × IsWriting rows writing
IsTask kind.Change rows (Change captures writing) = AreCapturesOf kind.Change rows captures × IsWriting rows writing
IsTask command rows task = ⊥

-- ---- what can't be read

-- The option is given and names no address.
abbrev pub IsUnreadValue : Option Text → CommandFault → Type 0
IsUnreadValue value fault = IsSomeAnd value (λ text. IsUnreadText text fault)

-- The fault is that of the first of these values that names no address.
abbrev pub IsFirstUnread : List (Option Text) → CommandFault → Type 0
IsFirstUnread [] fault = ⊥
IsFirstUnread (value ∷ values) fault = IsUnreadValue value fault ⊎ (IfSome value IsRead × IsFirstUnread values fault)

-- Each of these values that is given names an address.
abbrev pub AreRead : List (Option Text) → Type 0
AreRead [] = ⊤
AreRead (value ∷ values) = IfSome value IsRead × AreRead values

-- The fault of ports: of a value that chooses their links, otherwise of a word.
abbrev pub AreWrongPorts : CommandKind → List Row → CommandFault → Type 0
AreWrongPorts command rows fault =
    AreWrongChoices command rows fault
    ⊎ ((links : Links) × AreChosenLinks command rows links
    × IsFirstWrong command links.is_any [] 0 (words_of rows) fault)

-- The fault of a run's words: its time can't be read, or else it is a fault of the ports.
abbrev pub IsWrongRun : CommandKind → List Row → CommandFault → Type 0
IsWrongRun command rows fault =
    IsUntimed (time_text rows) fault ⊎ (IsTimely (time_text rows) × AreWrongPorts command rows fault)

-- The fault of the words of a trace or an audit: the time of its end can't be read, or else a value
-- of what it shows, or else it is a fault of the ports.
abbrev pub IsWrongTrace : CommandKind → List Row → CommandFault → Type 0
IsWrongTrace command rows fault =
    IsUntimed (time_text rows) fault
    ⊎ (IsTimely (time_text rows) × (IsWrongShown rows fault
    ⊎ (IsShowable rows × AreWrongPorts command rows fault)))

-- The same, of the run of a command.
abbrev pub IsWrongRunOf : CommandKind → List Row → CommandFault → Type 0
IsWrongRunOf kind.Trace rows fault = IsWrongTrace kind.Trace rows fault
IsWrongRunOf kind.Audit rows fault = IsWrongTrace kind.Audit rows fault
IsWrongRunOf command rows fault = IsWrongRun command rows fault

-- The fault of texts that can't be read: of the first such address of an option, otherwise of the
-- time, of what a trace or an audit shows, of the links, or of the first such word.
abbrev pub IsUnreadOf : CommandKind → List Row → CommandFault → Type 0
IsUnreadOf command rows fault =
    IsFirstUnread (address_texts command rows) fault
    ⊎ (AreRead (address_texts command rows) × IsWrongRunOf command rows fault)

-- The fault of words that don't give a task: the run has two ends, otherwise a text can't be read.
-- Or memory is refused.
abbrev pub IsUnreadable : CommandKind → List Row → CommandFault → Type 0
IsUnreadable command rows cause.Memory = ⊤
IsUnreadable command rows fault =
    ((fault ≡ cause.TwoEnds) × (has_two_ends command rows ≡ true))
    ⊎ ((has_two_ends command rows ≡ false) × IsUnreadOf command rows fault)
