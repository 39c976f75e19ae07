-- What commands do, from what their calls do.
use Rattle.pim_session.proofs.Words.{◌≡◌, ℕ, Bool, true, false, List, Option, None, Some, Result, Ok, Err, codes, refl, sym}
use Rattle.pim_session.proofs.Words.{subst, ap, AddressFamily, AppendsAll, Port, Rp, Via, Limit, Start, Run, Packet, Now, Next}
use Rattle.pim_session.proofs.Words.{State, Wants, Neighbours, Messages, Keep, Change, Same, Reset, RouterState, FromText}
use Rattle.pim_session.proofs.Words.{AnswersKeep, Kept, ok_line, fault_line, AnswersPacket, AnswersFrom, AnswersRun, Request}
use Rattle.pim_session.proofs.Words.{Command, From, AnyRow, AnyRows, with_limit, Answers, AnswersBefore, AnswersAfter, Gathers}
use Rattle.pim_session.proofs.Words.{Serves, Reports, session_in, Adds, any_seen, row_in, Gathered, gathering, serving, Session}
use Rattle.pim_session.proofs.Words.{nothing_gathered, Configured, session_after}
use Rattle.std.specs.Result.{result_and}
use Rattle.pim_request.specs.declared.command.Command.{Command as AnyCommand}
use Rattle.pim_request.specs.declared.command.Packet.{Packet as PacketOf}
use Rattle.pim_request.specs.declared.command.KeptWhat.{KeptWhat as Keeping}
use Rattle.pim_answers.specs.Answered.{Answered, Wrote}
use Rattle.pim_session.specs.declared.setup.AnyRow.TheVariants as kind
use Rattle.pim_session.specs.declared.setup.AnyRows.TheVariants.{Free, Ipv4, Ipv6}

-- what was answered, said otherwise
pub answered_as : {S T A E : Type 0} (Does : List ℕ → S → Type 0) (More : List ℕ → T → Type 0) (seen : S → T) (old new : Option (List ℕ)) (r : Result A E) (after : S)
    → ((text : List ℕ) (end : S) → Does text end → More text (seen end)) → Answered Does old new r (λ _. after) → Answered More old new r (λ _. seen after)
answered_as Does More seen old new (Ok x) after more it = record { text = it.text; does = more it.text after it.does; written = it.written }
answered_as Does More seen old new (Err e) after more it = record { text = it.text; after = seen it.after; does = more it.text it.after it.does; written = it.written }

-- a text that was written, and the state after it
pub answered_text : {S A E : Type 0} (Does : List ℕ → S → Type 0) (old new : Option (List ℕ)) (r : Result A E) (after : S) (text : List ℕ) → Does text after → AppendsAll old new r text → Answered Does old new r (λ _. after)
answered_text Does old new (Ok x) after text does written = record { text = text; does = does; written = written }
answered_text Does old new (Err e) after text does written = record { text = text; after = after; does = does; written = written }

-- an answer of a command that changes nothing
pub told_as : {S A E : Type 0} {Says : List ℕ → Type 0} (Does : List ℕ → S → Type 0) (old new : Option (List ℕ)) (r : Result A E) (state : S) → ((text : List ℕ) → Says text → Does text state) → Wrote Says old new r
    → Answered Does old new r (λ _. state)
told_as Does old new r state more it = answered_text Does old new r state it.text (more it.text it.says) it.written

-- ---- before `start`

pub added_row : (command : AnyCommand) (row : AnyRow) (begin end : Gathered) (text : List ℕ) → Some row ≡ row_in command → Adds row begin text end → Gathers command begin text end
added_row (Port one) row begin end text is it = let same : row ≡ kind.Port one = cc in subst (λ (r : AnyRow). Adds r begin text end) same it
added_row (Rp one) row begin end text is it = let same : row ≡ kind.Rp one = cc in subst (λ (r : AnyRow). Adds r begin text end) same it
added_row (Via one) row begin end text is it = let same : row ≡ kind.Via one = cc in subst (λ (r : AnyRow). Adds r begin text end) same it
added_row (Limit n) row begin end text is it = absurd cc
added_row Start row begin end text is it = absurd cc
added_row (Run moment) row begin end text is it = absurd cc
added_row (Packet packet) row begin end text is it = absurd cc
added_row Now row begin end text is it = absurd cc
added_row Next row begin end text is it = absurd cc
added_row State row begin end text is it = absurd cc
added_row Wants row begin end text is it = absurd cc
added_row Neighbours row begin end text is it = absurd cc
added_row (Messages writing) row begin end text is it = absurd cc
added_row (Keep keeping) row begin end text is it = absurd cc
added_row (Change comparison) row begin end text is it = absurd cc
added_row (Same comparison) row begin end text is it = absurd cc
added_row Reset row begin end text is it = absurd cc

pub not_started : (command : AnyCommand) (gathered : Gathered) (words : List ℕ) → row_in command ≡ None → ((n : ℕ) → command ≡ Limit n → ⊥) → (command ≡ Reset → ⊥) → words ≡ codes "not started" → Gathers command gathered (fault_line words) gathered
not_started (Port row) gathered words none limit reset is = absurd cc
not_started (Rp row) gathered words none limit reset is = absurd cc
not_started (Via row) gathered words none limit reset is = absurd cc
not_started (Limit n) gathered words none limit reset is = absurd (limit n refl)
not_started Start gathered words none limit reset is = (ap fault_line is, refl)
not_started (Run moment) gathered words none limit reset is = (ap fault_line is, refl)
not_started (Packet packet) gathered words none limit reset is = (ap fault_line is, refl)
not_started Now gathered words none limit reset is = (ap fault_line is, refl)
not_started Next gathered words none limit reset is = (ap fault_line is, refl)
not_started State gathered words none limit reset is = (ap fault_line is, refl)
not_started Wants gathered words none limit reset is = (ap fault_line is, refl)
not_started Neighbours gathered words none limit reset is = (ap fault_line is, refl)
not_started (Messages writing) gathered words none limit reset is = (ap fault_line is, refl)
not_started (Keep keeping) gathered words none limit reset is = (ap fault_line is, refl)
not_started (Change comparison) gathered words none limit reset is = (ap fault_line is, refl)
not_started (Same comparison) gathered words none limit reset is = (ap fault_line is, refl)
not_started Reset gathered words none limit reset is = absurd (reset refl)

pub gathers_before : (command : AnyCommand) (begin end : Gathered) (kept : List Kept) (text : List ℕ) → (command ≡ Start → ⊥) → Gathers command begin text end → AnswersBefore (Command command) begin kept text (session_in (gathering end) kept)
gathers_before (Port row) begin end kept text never it = (end, it, refl)
gathers_before (Rp row) begin end kept text never it = (end, it, refl)
gathers_before (Via row) begin end kept text never it = (end, it, refl)
gathers_before (Limit n) begin end kept text never it = (end, it, refl)
gathers_before Start begin end kept text never it = absurd (never refl)
gathers_before (Run moment) begin end kept text never it = (end, it, refl)
gathers_before (Packet packet) begin end kept text never it = (end, it, refl)
gathers_before Now begin end kept text never it = (end, it, refl)
gathers_before Next begin end kept text never it = (end, it, refl)
gathers_before State begin end kept text never it = (end, it, refl)
gathers_before Wants begin end kept text never it = (end, it, refl)
gathers_before Neighbours begin end kept text never it = (end, it, refl)
gathers_before (Messages writing) begin end kept text never it = (end, it, refl)
gathers_before (Keep keeping) begin end kept text never it = (end, it, refl)
gathers_before (Change comparison) begin end kept text never it = (end, it, refl)
gathers_before (Same comparison) begin end kept text never it = (end, it, refl)
gathers_before Reset begin end kept text never it = (end, it, refl)

-- ---- after `start`

module _ (family : AddressFamily) (router after : RouterState) (kept kept' : List Kept) (text : List ℕ) where
  pub serves_run : (command : AnyCommand) (moment : ℕ) → command ≡ Run moment → AnswersRun family moment router text after → Serves family command (router, kept) text (after, kept)
  serves_run command moment is it = subst (λ (c : AnyCommand). Serves family c (router, kept) text (after, kept)) (sym is) (it, refl)

  pub serves_packet : (command : AnyCommand) (packet : PacketOf) → command ≡ Packet packet → AnswersPacket family packet router text after → Serves family command (router, kept) text (after, kept)
  serves_packet command packet is it = subst (λ (c : AnyCommand). Serves family c (router, kept) text (after, kept)) (sym is) (it, refl)

  pub serves_keep : (command : AnyCommand) (keeping : Keeping) → command ≡ Keep keeping → AnswersKeep family keeping router kept text kept' → Serves family command (router, kept) text (router, kept')
  serves_keep command keeping is it = subst (λ (c : AnyCommand). Serves family c (router, kept) text (router, kept')) (sym is) (it, refl)

  pub serves_told : (command : AnyCommand) → ((moment : ℕ) → command ≡ Run moment → ⊥) → ((packet : PacketOf) → command ≡ Packet packet → ⊥) → ((keeping : Keeping) → command ≡ Keep keeping → ⊥)
      → Reports family command router kept text → Serves family command (router, kept) text (router, kept)
  serves_told (Port row) run taken keeps it = (it, refl)
  serves_told (Rp row) run taken keeps it = (it, refl)
  serves_told (Via row) run taken keeps it = (it, refl)
  serves_told (Limit n) run taken keeps it = (it, refl)
  serves_told Start run taken keeps it = (it, refl)
  serves_told (Run moment) run taken keeps it = absurd (run moment refl)
  serves_told (Packet packet) run taken keeps it = absurd (taken packet refl)
  serves_told Now run taken keeps it = (it, refl)
  serves_told Next run taken keeps it = (it, refl)
  serves_told State run taken keeps it = (it, refl)
  serves_told Wants run taken keeps it = (it, refl)
  serves_told Neighbours run taken keeps it = (it, refl)
  serves_told (Messages writing) run taken keeps it = (it, refl)
  serves_told (Keep keeping) run taken keeps it = absurd (keeps keeping refl)
  serves_told (Change comparison) run taken keeps it = (it, refl)
  serves_told (Same comparison) run taken keeps it = (it, refl)
  serves_told Reset run taken keeps it = (it, refl)

  pub serves_after : (command : AnyCommand) → (command ≡ Reset → ⊥) → Serves family command (router, kept) text (after, kept') → AnswersAfter family (Command command) (router, kept) text (session_in (serving family after) kept')
  serves_after (Port row) never it = ((after, kept'), it, refl)
  serves_after (Rp row) never it = ((after, kept'), it, refl)
  serves_after (Via row) never it = ((after, kept'), it, refl)
  serves_after (Limit n) never it = ((after, kept'), it, refl)
  serves_after Start never it = ((after, kept'), it, refl)
  serves_after (Run moment) never it = ((after, kept'), it, refl)
  serves_after (Packet packet) never it = ((after, kept'), it, refl)
  serves_after Now never it = ((after, kept'), it, refl)
  serves_after Next never it = ((after, kept'), it, refl)
  serves_after State never it = ((after, kept'), it, refl)
  serves_after Wants never it = ((after, kept'), it, refl)
  serves_after Neighbours never it = ((after, kept'), it, refl)
  serves_after (Messages writing) never it = ((after, kept'), it, refl)
  serves_after (Keep keeping) never it = ((after, kept'), it, refl)
  serves_after (Change comparison) never it = ((after, kept'), it, refl)
  serves_after (Same comparison) never it = ((after, kept'), it, refl)
  serves_after Reset never it = absurd (never refl)

  pub takes_after : (from : FromText) → AnswersFrom family from router text after → AnswersAfter family (From from) (router, kept) text (session_in (serving family after) kept)
  takes_after from it = ((after, kept), (it, refl), refl)

-- ---- an answer, and whether the session goes on

-- what was answered, said otherwise, with a value beside it
pub answered_and : {S T E : Type 0} (Does : List ℕ → S → Type 0) (More : List ℕ → T → Type 0) (seen : S → T) (old new : Option (List ℕ)) (r : Result (Unit {0}) E) (value : Bool) (q : Result Bool E) (after : S) (f : Bool → T)
    → q ≡ result_and r (Ok value) → f value ≡ seen after → ((text : List ℕ) (end : S) → Does text end → More text (seen end)) → Answered Does old new r (λ _. after) → Answered More old new q f
answered_and Does More seen old new (Ok x) value q after f is same more it =
    subst (λ p. Answered More old new p f) (sym is)
    (record { text = it.text; does = subst (λ t. More it.text t) (sym same) (more it.text after it.does); written = it.written })
answered_and Does More seen old new (Err e) value q after f is same more it =
    subst (λ p. Answered More old new p f) (sym is)
    (record { text = it.text; after = seen it.after; does = more it.text it.after it.does; written = it.written })

-- a text that was written, with a value beside it
pub text_and : {T E : Type 0} (More : List ℕ → T → Type 0) (old new : Option (List ℕ)) (r : Result (Unit {0}) E) (value : Bool) (q : Result Bool E) (after : T) (f : Bool → T) (text : List ℕ)
    → q ≡ result_and r (Ok value) → f value ≡ after → More text after → AppendsAll old new r text → Answered More old new q f
text_and More old new r value q after f text is same does written =
    answered_and More More (λ t. t) old new r value q after f is same (λ text end it. it) (answered_text More old new r after text does written)

module _ (family : AddressFamily) (router : RouterState) (kept : List Kept) where
  serves_pair : (command : AnyCommand) (text : List ℕ) (end : RouterState × List Kept) → (command ≡ Reset → ⊥) → Serves family command (router, kept) text end
      → AnswersAfter family (Command command) (router, kept) text (session_in (serving family end.0) end.1)
  serves_pair command text (after, kept') never it = serves_after family router after kept kept' text command never it

  module _ {E : Type 0} (old new : Option (List ℕ)) (r : Result (Unit {0}) E) (q : Result Bool E) where
    -- a command that leaves the router
    pub command_answered : (command : AnyCommand) (family' : AddressFamily) (router' : RouterState) (kept' : List Kept) → (command ≡ Reset → ⊥) → family' ≡ family → q ≡ result_and r (Ok true)
        → Answered (Serves family command (router, kept)) old new r (λ _. (router', kept'))
        → Answered (AnswersAfter family (Command command) (router, kept)) old new q (λ serves. session_after serves family' router' kept')
    command_answered command family' router' kept' never same is it =
        answered_and (Serves family command (router, kept)) (AnswersAfter family (Command command) (router, kept)) (λ (s : RouterState × List Kept). session_in (serving family s.0) s.1) old new r true q
        (router', kept') (λ serves. session_after serves family' router' kept') is (ap (λ (f : AddressFamily). session_in (serving f router') kept') same)
        (λ text end does. serves_pair command text end never does) it

    -- `reset`
    pub reset_answered : (command : AnyCommand) → command ≡ Reset → q ≡ result_and r (Ok false) → AppendsAll old new r ok_line
        → Answered (AnswersAfter family (Command command) (router, kept)) old new q (λ serves. session_after serves family router kept)
    reset_answered command reset is written =
        subst (λ (c : AnyCommand). Answered (AnswersAfter family (Command c) (router, kept)) old new q (λ serves. session_after serves family router kept)) (sym reset)
        (text_and (AnswersAfter family (Command Reset) (router, kept)) old new r false q (session_in (gathering nothing_gathered) kept) (λ serves. session_after serves family router kept) ok_line is refl
        (refl, refl) written)

    -- a packet whose message is given as a text
    pub from_answered : (from : FromText) (family' : AddressFamily) (router' : RouterState) → family' ≡ family → q ≡ result_and r (Ok true)
        → Answered (AnswersFrom family from router) old new r (λ _. router')
        → Answered (AnswersAfter family (From from) (router, kept)) old new q (λ serves. session_after serves family' router' kept)
    from_answered from family' router' same is it =
        answered_and (AnswersFrom family from router) (AnswersAfter family (From from) (router, kept)) (λ (s : RouterState). session_in (serving family s) kept) old new r true q
        router' (λ serves. session_after serves family' router' kept) is (ap (λ (f : AddressFamily). session_in (serving f router') kept) same)
        (λ text end does. takes_after family router end kept kept text from does) it

    -- a fault
    pub fault_answered : (words : List ℕ) → q ≡ result_and r (Ok true) → AppendsAll old new r (fault_line words)
        → Answered (Answers (session_in (serving family router) kept) (Err words)) old new q (λ serves. session_after serves family router kept)
    fault_answered words is written =
        text_and (Answers (session_in (serving family router) kept) (Err words)) old new r true q (session_in (serving family router) kept) (λ serves. session_after serves family router kept)
        (fault_line words) is refl (refl, refl) written

-- ---- before `start`, and whether it is asked for

configured_text : {E : Type 0} (start after : Session) (requested : Result Request (List ℕ)) (old new : Option (List ℕ)) (r : Result (Unit {0}) E) (q : Result Bool E) (text : List ℕ)
    → q ≡ result_and r (Ok false) → Answers start requested text after → AppendsAll old new r text → Configured start requested old new q after
configured_text start after requested old new (Ok x) q text is does written =
    subst (λ p. Configured start requested old new p after) (sym is) (record { text = text; does = does; written = written })
configured_text start after requested old new (Err e) q text is does written =
    subst (λ p. Configured start requested old new p after) (sym is) (record { text = text; after = after; does = does; written = written })

module _ {E : Type 0} (begin : Gathered) (kept : List Kept) (old new : Option (List ℕ)) where
  -- a command other than `start`
  pub command_configured : (r : Result (Unit {0}) E) (q : Result Bool E) (command : AnyCommand) (end : Gathered) → (command ≡ Start → ⊥) → q ≡ result_and r (Ok false)
      → Answered (Gathers command begin) old new r (λ _. end) → Configured (session_in (gathering begin) kept) (Ok (Command command)) old new q (session_in (gathering end) kept)
  command_configured (Ok x) q command end never is it =
      subst (λ p. Configured (session_in (gathering begin) kept) (Ok (Command command)) old new p (session_in (gathering end) kept)) (sym is)
      (record { text = it.text; does = gathers_before command begin end kept it.text never it.does; written = it.written })
  command_configured (Err e) q command end never is it =
      subst (λ p. Configured (session_in (gathering begin) kept) (Ok (Command command)) old new p (session_in (gathering end) kept)) (sym is)
      (record { text = it.text; after = session_in (gathering it.after) kept; does = gathers_before command begin it.after kept it.text never it.does; written = it.written })

  -- a text for a router that isn't there
  pub from_configured : (r : Result (Unit {0}) E) (q : Result Bool E) (from : FromText) (words : List ℕ) → words ≡ codes "not started" → q ≡ result_and r (Ok false) → AppendsAll old new r (fault_line words)
      → Configured (session_in (gathering begin) kept) (Ok (From from)) old new q (session_in (gathering begin) kept)
  from_configured r q from words are is written =
      configured_text (session_in (gathering begin) kept) (session_in (gathering begin) kept) (Ok (From from)) old new r q (fault_line words) is (begin, (ap fault_line are, refl), refl) written

  -- a fault
  pub fault_configured : (r : Result (Unit {0}) E) (q : Result Bool E) (words : List ℕ) → q ≡ result_and r (Ok false) → AppendsAll old new r (fault_line words)
      → Configured (session_in (gathering begin) kept) (Err words) old new q (session_in (gathering begin) kept)
  fault_configured r q words is written =
      configured_text (session_in (gathering begin) kept) (session_in (gathering begin) kept) (Err words) old new r q (fault_line words) is (refl, refl) written

-- the limit of what is gathered
limit_seen : (rows : AnyRows) (before limit : ℕ) → any_seen limit rows ≡ with_limit limit (any_seen before rows)
limit_seen Free before limit = refl
limit_seen (Ipv4 rows) before limit = refl
limit_seen (Ipv6 rows) before limit = refl

pub limit_answered : {A E : Type 0} (command : AnyCommand) (limit before : ℕ) (rows : AnyRows) (old new : Option (List ℕ)) (r : Result A E) → command ≡ Limit limit → AppendsAll old new r ok_line
    → Answered (Gathers command (any_seen before rows)) old new r (λ _. any_seen limit rows)
limit_answered command limit before rows old new r is written =
    subst (λ (c : AnyCommand). Answered (Gathers c (any_seen before rows)) old new r (λ _. any_seen limit rows)) (sym is)
    (answered_text (Gathers (Limit limit) (any_seen before rows)) old new r (any_seen limit rows) ok_line (refl, limit_seen rows before limit) written)

pub forgotten : {A E : Type 0} (command : AnyCommand) (begin end : Gathered) (old new : Option (List ℕ)) (r : Result A E) → command ≡ Reset → end ≡ nothing_gathered → AppendsAll old new r ok_line
    → Answered (Gathers command begin) old new r (λ _. end)
forgotten command begin end old new r is none written =
    subst (λ (c : AnyCommand). Answered (Gathers c begin) old new r (λ _. end)) (sym is) (answered_text (Gathers Reset begin) old new r end ok_line (refl, none) written)
