-- A request has one answer, but that memory may be refused.
use Rattle.pim_session.proofs.Words.{◌≡◌, ◌∙◌, ◌≢◌, sym, ap, subst, inl, inr, ℕ, Bool, true, false, List, [], ◌∷◌, map, Option}
use Rattle.pim_session.proofs.Words.{None, Some, Result, Ok, Err, codes, AddressFamily, RouteFault, RouteTable, with_rp, with_via}
use Rattle.pim_session.proofs.Words.{rp_faults, via_faults, Stated, PortRow, RouteRow, Sender, Port, Rp, Via, Limit, Start, Run}
use Rattle.pim_session.proofs.Words.{Packet, Now, Next, State, Wants, Neighbours, Messages, Keep, Change, Same, Reset}
use Rattle.pim_session.proofs.Words.{SameCommand, address_bytes, config_faults, RouterState, new_router, FromText, differ_from}
use Rattle.pim_session.proofs.Words.{family_words, Kept, memory_line, fault_line, AnswersFrom, Request, Command, From, session_in}
use Rattle.pim_session.proofs.Words.{NotStarted, Gathers, Gathering, Starting, Reports, Serves, Serving, AnswersIn, Answers}
use Rattle.pim_session.proofs.Words.{family_with, with_port, with_routes, prefix_of, route_words, AddsRow, Starts, with_limit}
use Rattle.pim_session.proofs.Words.{config_words, setup_of, Gathered, Phase, gathering, serving, Session, nothing_gathered}
use Rattle.pim_lines.specs.declared.either.AnyAddress.{AnyAddress}
use Rattle.pim_request.specs.declared.command.AnyWriting.{AnyWriting}
use Rattle.pim_request.specs.declared.command.Command.{Command as AnyCommand}
use Rattle.pim_answers.specs.Answered.{Refused, RefusedIf, RefusedBy, OrMemory, Done}
use Rattle.pim_answers.specs.OneAnswer.{OneAnswer, OneText, OneRun, OnePacket, OneFrom, OneKeep, OneNext, OneWants, OneMessages, OneChange, OneSame}
use Rattle.pim_session.proofs.OneAsked.{SameFrom, SameRequest, SameAsked}

-- ---- refusals

module _ {S : Type 0} where
  refused : (words : List ℕ) (state : S) → OneAnswer (Refused words state)
  refused words state text other after end is too room more = (is.0 ∙ sym too.0, is.1 ∙ sym too.1)

  done : (state : S) → OneAnswer (Done state)
  done state text other after end is too room more = (is.0 ∙ sym too.0, is.1 ∙ sym too.1)

  refused_if : (test : Bool) (words : List ℕ) (state : S) (Does : List ℕ → S → Type 0) → OneAnswer Does → OneAnswer (RefusedIf test words state Does)
  refused_if true words state Does one = refused words state
  refused_if false words state Does one = one

  refused_by : (faults : List (List ℕ)) (state : S) (Does : List ℕ → S → Type 0) → OneAnswer Does → OneAnswer (RefusedBy faults state Does)
  refused_by [] state Does one = one
  refused_by (first ∷ others) state Does one = refused first state

  with_room : (state : S) (Does : List ℕ → S → Type 0) (text : List ℕ) (after : S) → OrMemory state Does text after → text ≢ memory_line → Does text after
  with_room state Does text after (inl does) room = does
  with_room state Does text after (inr memory) room = absurd (room memory.0)

  or_memory : (state : S) (Does : List ℕ → S → Type 0) → OneAnswer Does → OneAnswer (OrMemory state Does)
  or_memory state Does one text other after end is too room more =
      one text other after end (with_room state Does text after is room) (with_room state Does other end too more) room more

-- ---- before `start`

add_row : (row : RouteRow) (faults : AddressFamily → List RouteFault) (table : RouteTable) (gathered : Gathered) → OneAnswer (AddsRow row faults table gathered)
add_row row faults table gathered =
    let end = with_routes (family_with gathered row.prefix) table gathered in
    refused_if (differ_from (family_with gathered row.prefix) (row.prefix ∷ row.to ∷ [])) family_words gathered _
    (refused_by (map route_words (faults (family_with gathered row.prefix))) gathered _ (or_memory gathered (Done end) (done end)))

gathers : (command : AnyCommand) (gathered : Gathered) → OneAnswer (Gathers command gathered)
gathers (Port row) gathered =
    let end = with_port (family_with gathered row.address) row gathered in
    refused_if (differ_from (family_with gathered row.address) (row.address ∷ [])) family_words gathered _ (or_memory gathered (Done end) (done end))
gathers (Rp row) gathered =
    add_row row (λ family. rp_faults family (prefix_of row) (address_bytes row.to) gathered.routes.rps) (with_rp (prefix_of row) (address_bytes row.to) gathered.routes) gathered
gathers (Via row) gathered =
    add_row row (λ family. via_faults family (prefix_of row) (address_bytes row.to) gathered.routes.vias) (with_via (prefix_of row) (address_bytes row.to) gathered.routes) gathered
gathers (Limit limit) gathered = done (with_limit limit gathered)
gathers Reset gathered = done nothing_gathered
gathers other gathered = refused (codes "not started") gathered

starts : (family : Option AddressFamily) (gathered : Gathered) → OneAnswer (Starts family gathered)
starts None gathered = refused (codes "config ports") (gathering gathered)
starts (Some family) gathered =
    let end = serving family (new_router (setup_of gathered)) in
    refused_by (map config_words (config_faults family (setup_of gathered))) (gathering gathered) _ (or_memory (gathering gathered) (Done end) (done end))

one_gathering : (Answer : Gathered → List ℕ → Gathered → Type 0) (gathered : Gathered) (kept : List Kept) → OneAnswer (Answer gathered) → OneAnswer (Gathering Answer gathered kept)
one_gathering Answer gathered kept one text other after end (g, is, so) (h, too, also) room more =
    let same = one text other g h is too room more in
    (same.0, so ∙ (ap (λ (x : Gathered). session_in (gathering x) kept) same.1 ∙ sym also))

one_starting : (gathered : Gathered) (kept : List Kept) → OneAnswer (Starting gathered kept)
one_starting gathered kept text other after end (p, is, so) (q, too, also) room more =
    let same = starts gathered.family gathered text other p q is too room more in
    (same.0, so ∙ (ap (λ (x : Phase). session_in x kept) same.1 ∙ sym also))

-- ---- after `start`

-- All that a lower crate says of answers.
pub record Laws : Type 0 where
  pub run : OneRun
  pub packet : OnePacket
  pub from : OneFrom
  pub keep : OneKeep
  pub next : OneNext
  pub wants : OneWants
  pub messages : OneMessages
  pub change : OneChange
  pub same : OneSame

one_serving : (family : AddressFamily) (Answer : RouterState × List Kept → List ℕ → RouterState × List Kept → Type 0) (state : RouterState × List Kept) → OneAnswer (Answer state) → OneAnswer (Serving family Answer state)
one_serving family Answer state one text other after end (s, is, so) (t, too, also) room more =
    let same = one text other s t is too room more in
    (same.0, so ∙ (ap (λ (x : RouterState × List Kept). session_in (serving family x.0) x.1) same.1 ∙ sym also))

module _ (laws : Laws) (family : AddressFamily) where
  tells : (command : AnyCommand) (router : RouterState) (kept : List Kept) → OneText (Reports family command router kept)
  tells Now router kept text other is too room more = is ∙ sym too
  tells Next router kept text other is too room more = laws.next router text other is too room more
  tells State router kept text other is too room more = is ∙ sym too
  tells Wants router kept text other is too room more = laws.wants family router text other is too room more
  tells Neighbours router kept text other is too room more = is ∙ sym too
  tells (Messages writing) router kept text other is too room more = laws.messages family writing router text other is too room more
  tells (Change comparison) router kept text other is too room more = laws.change family comparison router kept text other is too room more
  tells (Same comparison) router kept text other is too room more = laws.same family comparison router kept text other is too room more
  tells command router kept text other is too room more = is ∙ sym too

  reported : (command : AnyCommand) (state : RouterState × List Kept) (text other : List ℕ) (after end : RouterState × List Kept)
      → Reports family command state.0 state.1 text × (after ≡ state) → Reports family command state.0 state.1 other × (end ≡ state) → text ≢ memory_line → other ≢ memory_line → (text ≡ other) × (after ≡ end)
  reported command state text other after end is too room more = (tells command state.0 state.1 text other is.0 too.0 room more, is.1 ∙ sym too.1)

  pairs : (a b : RouterState) (c d : List Kept) → a ≡ b → c ≡ d → Path (RouterState × List Kept) (a, c) (b, d)
  pairs a b c d first second = λ i. (first i, second i)

  serves : (command : AnyCommand) (state : RouterState × List Kept) → OneAnswer (Serves family command state)
  serves (Run moment) state text other after end is too room more =
      let same = laws.run family moment state.0 text other after.0 end.0 is.0 too.0 room more in
      (same.0, pairs after.0 end.0 after.1 end.1 same.1 (is.1 ∙ sym too.1))
  serves (Packet packet) state text other after end is too room more =
      let same = laws.packet family packet state.0 text other after.0 end.0 is.0 too.0 room more in
      (same.0, pairs after.0 end.0 after.1 end.1 same.1 (is.1 ∙ sym too.1))
  serves (Keep keeping) state text other after end is too room more =
      let same = laws.keep family keeping state.0 state.1 text other after.1 end.1 is.0 too.0 room more in
      (same.0, pairs after.0 end.0 after.1 end.1 (is.1 ∙ sym too.1) same.1)
  serves command state text other after end is too room more = reported command state text other after end is too room more

  takes_text : (from : FromText) (state : RouterState × List Kept) (text other : List ℕ) (after end : RouterState × List Kept)
      → AnswersFrom family from state.0 text after.0 × (after.1 ≡ state.1) → AnswersFrom family from state.0 other end.0 × (end.1 ≡ state.1)
      → text ≢ memory_line → other ≢ memory_line → (text ≡ other) × (after ≡ end)
  takes_text from state text other after end is too room more =
      let same = laws.from family from state.0 text other after.0 end.0 is.0 too.0 room more in
      (same.0, pairs after.0 end.0 after.1 end.1 same.1 (is.1 ∙ sym too.1))

-- ---- in each phase

module _ (laws : Laws) (kept : List Kept) where
  one_in : (phase : Phase) (request : Request) → OneAnswer (AnswersIn phase kept request)
  one_in (gathering gathered) (From from) = one_gathering NotStarted gathered kept (refused (codes "not started") gathered)
  one_in (gathering gathered) (Command Start) = one_starting gathered kept
  one_in (gathering gathered) (Command command) = one_gathering (Gathers command) gathered kept (gathers command gathered)
  one_in (serving family router) (From from) =
      one_serving family (λ (begin : RouterState × List Kept) (words : List ℕ) (end : RouterState × List Kept). AnswersFrom family from begin.0 words end.0 × (end.1 ≡ begin.1))
      (router, kept) (takes_text laws family from (router, kept))
  one_in (serving family router) (Command Reset) = done (session_in (gathering nothing_gathered) kept)
  one_in (serving family router) (Command command) = one_serving family (Serves family command) (router, kept) (serves laws family command (router, kept))

-- ---- the same request

module _ (kept : List Kept) (text : List ℕ) (after : Session) where
  abbrev Does : Phase → AnyCommand → Type 0
  Does phase command = AnswersIn phase kept (Command command) text after

  other_command : (phase : Phase) (one other : AnyCommand) → SameCommand one other → Does phase other → Does phase one
  other_command phase (Port one) (Port other) same does = subst (λ (x : PortRow). Does phase (Port x)) (sym same) does
  other_command phase (Rp one) (Rp other) same does = subst (λ (x : RouteRow). Does phase (Rp x)) (sym same) does
  other_command phase (Via one) (Via other) same does = subst (λ (x : RouteRow). Does phase (Via x)) (sym same) does
  other_command phase (Limit one) (Limit other) same does = subst (λ (x : ℕ). Does phase (Limit x)) (sym same) does
  other_command phase Start Start same does = does
  other_command phase (Run one) (Run other) same does = subst (λ (x : ℕ). Does phase (Run x)) (sym same) does
  other_command (gathering gathered) (Packet one) (Packet other) same does = does
  other_command (serving family router) (Packet one) (Packet other) same does =
      subst (λ (x : ℕ × AnyAddress × AnyAddress × List ℕ).
      Does (serving family router) (Packet (record { port = x.0; source = x.1; destination = x.2; hex = record { ref_ptr = one.hex.ref_ptr; now = x.3 } })))
      (let p = sym same.port in let s = sym same.source in let d = sym same.destination in let h = sym same.hex in λ i. (p i, s i, d i, h i)) does
  other_command phase Now Now same does = does
  other_command phase Next Next same does = does
  other_command phase State State same does = does
  other_command phase Wants Wants same does = does
  other_command phase Neighbours Neighbours same does = does
  other_command phase (Messages one) (Messages other) same does = subst (λ (x : AnyWriting). Does phase (Messages x)) (sym same) does
  other_command (gathering gathered) (Keep one) (Keep other) same does = does
  other_command (serving family router) (Keep one) (Keep other) same does =
      subst (λ (x : List ℕ × AnyAddress).
      Does (serving family router) (Keep (record { name = record { ref_ptr = one.name.ref_ptr; now = x.0 }; upstream = x.1 })))
      (let n = sym same.name in let u = sym same.upstream in λ i. (n i, u i)) does
  other_command (gathering gathered) (Change one) (Change other) same does = does
  other_command (serving family router) (Change one) (Change other) same does =
      subst (λ (x : List ℕ × AnyWriting).
      Does (serving family router) (Change (record { name = record { ref_ptr = one.name.ref_ptr; now = x.0 }; writing = x.1 })))
      (let n = sym same.name in let w = sym same.writing in λ i. (n i, w i)) does
  other_command (gathering gathered) (Same one) (Same other) same does = does
  other_command (serving family router) (Same one) (Same other) same does =
      subst (λ (x : List ℕ × AnyWriting).
      Does (serving family router) (Same (record { name = record { ref_ptr = one.name.ref_ptr; now = x.0 }; writing = x.1 })))
      (let n = sym same.name in let w = sym same.writing in λ i. (n i, w i)) does
  other_command phase Reset Reset same does = does
  other_command phase one other same does = absurd same

  other_from : (phase : Phase) (one other : FromText) → SameFrom one other → AnswersIn phase kept (From other) text after → AnswersIn phase kept (From one) text after
  other_from (gathering gathered) one other same does = does
  other_from (serving family router) one other same does =
      subst (λ (x : Sender × Stated × List ℕ).
      AnswersIn (serving family router) kept (From (record { sender = x.0; stated = x.1; text = record { ref_ptr = one.text.ref_ptr; now = x.2 } })) text after)
      (let s = sym same.sender in let r = sym same.stated in let t = sym same.text in λ i. (s i, r i, t i)) does

  other_request : (phase : Phase) (one other : Request) → SameRequest one other → AnswersIn phase kept other text after → AnswersIn phase kept one text after
  other_request phase (Command one) (Command other) same does = other_command phase one other same does
  other_request phase (Command one) (From other) same does = absurd same
  other_request phase (From one) (Command other) same does = absurd same
  other_request phase (From one) (From other) same does = other_from phase one other same does

-- ---- what is asked for

pub one_answered : Laws → (session : Session) (requested wanted : Result Request (List ℕ)) (text other : List ℕ) (after end : Session) → SameAsked requested wanted
    → Answers session requested text after → Answers session wanted other end → text ≢ memory_line → other ≢ memory_line → (text ≡ other) × (after ≡ end)
one_answered laws session (Ok request) (Ok another) text other after end same is too room more =
    one_in laws session.kept session.phase request text other after end is (other_request session.kept other end session.phase request another same too) room more
one_answered laws session (Ok request) (Err words) text other after end same is too room more = absurd same
one_answered laws session (Err words) (Ok request) text other after end same is too room more = absurd same
one_answered laws session (Err words) (Err others) text other after end same is too room more =
    (is.0 ∙ (ap fault_line same ∙ sym too.0), is.1 ∙ sym too.1)
