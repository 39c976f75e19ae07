-- The results of a capture that come to a fault before its end.
use Rattle.std.proofs.Common.{ℕ, Bool, true, false, List, [], ◌∷◌, ◌++◌, Option, None, Some, Result, Ok, Err}
use Rattle.std.specs.List.{AllByRecursion}
use Rattle.std.specs.Prelude.{⊤, IfSome, option_map, if◌then◌else◌}
use Rattle.pim_capture.specs.Capture.{EventSeen, packet, skipped, ended, Answer}
use Rattle.pim_capture.specs.Frame.{Datagram}
use Rattle.pim_capture.specs.Next.{in_front}
use Rattle.pim_capture.specs.declared.link.Link.{Link}
use Rattle.pim_capture.specs.declared.event.Why.{Why}
use Rattle.pim_capture.specs.declared.event.Why.TheVariants.{CutShort, Incomplete, NotChosen}
use Rattle.pim_container.specs.declared.choice.Choice.{Choice}
use Rattle.pim_container.specs.declared.choice.Mixed.{Mixed}
use Rattle.pim_container.specs.declared.fault.ContainerFault.{ContainerFault}
use Rattle.pim_container.specs.declared.fault.ContainerFault.TheVariants.{Magic}
use Rattle.pim_container.specs.Choice.{is_of_link}
use Rattle.pim_container.specs.EventSeen as any
use Rattle.pim_container.specs.Pieces as pieces
use Rattle.pim_merge.specs.Chosen.{fault_of, is_cut, fault_given, given, put, reports_first, report_given, chosen, next_files, state_then, answers_of_files}
use Rattle.pim_merge.specs.Taker.{TakerState, taker_of, event_given, taken_given, begun_given, whole_given, fragment_given, ending_given, in_next_file, incomplete_of, reported, report_by, untaken, judged_by, skipped_given}
use Rattle.pim_merge.specs.declared.taker.FileLink.{FileLink}
use Rattle.pim_merge.specs.declared.taker.FileLink.TheVariants.{Unmet, Unread, Met}
use Rattle.pim_files.specs.Files.{no_bytes}
use Rattle.pim_files.specs.Unopened.{IsNoEnd}

-- none of them is the end
abbrev NoEnd : List Answer → Type 0
NoEnd results = AllByRecursion IsNoEnd results

in_front_no_end : (answer : Answer) (later : List Answer) → IsNoEnd answer → NoEnd later → NoEnd (in_front answer later)
in_front_no_end (Ok (packet millis frame datagram)) later is none = (is, none)
in_front_no_end (Ok (skipped millis why)) later is none = (is, none)
in_front_no_end (Ok ended) later is none = absurd is
in_front_no_end (Err fault) later is none = (tt, tt)

put_no_end : (answer : Option Answer) (later : List Answer) → IfSome answer IsNoEnd → NoEnd later → NoEnd (put answer later)
put_no_end None later is none = none
put_no_end (Some answer) later is none = in_front_no_end answer later is none

-- ---- what a result of the container gives

whole_no_end : (millis : ℕ) (datagram : Datagram) (payload : List ℕ) (begin : Result ℕ Why) → IsNoEnd (Ok (begun_given millis datagram payload begin))
whole_no_end millis datagram payload (Ok begin) = tt
whole_no_end millis datagram payload (Err why) = tt

whole_given_no_end : (millis : ℕ) (datagram : Datagram) (protocol : ℕ) (payload : Option (List ℕ)) → IsNoEnd (Ok (whole_given millis datagram protocol payload))
whole_given_no_end millis datagram protocol None = tt
whole_given_no_end millis datagram protocol (Some payload) = whole_no_end millis datagram payload _

if_no_end : (b : Bool) (one other : EventSeen) → IsNoEnd (Ok one) → IsNoEnd (Ok other) → IsNoEnd (Ok (if b then one else other))
if_no_end true one other is are = is
if_no_end false one other is are = are

taken_no_end : (judged : Result Bool Mixed) (one other : EventSeen) → IsNoEnd (Ok one) → IsNoEnd (Ok other) → IsNoEnd (taken_given judged one other)
taken_no_end (Ok true) one other is are = is
taken_no_end (Ok false) one other is are = are
taken_no_end (Err mixed) one other is are = tt

ending_no_end : (link : FileLink) → IfSome (ending_given link) IsNoEnd
ending_no_end Unmet = tt
ending_no_end (Unread number) = tt
ending_no_end Met = tt

event_no_end : (state : TakerState) (event : any.EventSeen) → IfSome (event_given state event) IsNoEnd
event_no_end state (any.packet millis origin datagram) =
    taken_no_end (judged_by state origin) (packet millis datagram.payload datagram) (untaken state millis origin) tt tt
event_no_end state (any.fragment millis origin datagram part) =
    taken_no_end (judged_by state origin) (fragment_given state millis origin datagram part) (untaken state millis origin) (whole_given_no_end millis datagram part.protocol _) tt
event_no_end state (any.skipped millis origin why) =
    if_no_end (is_of_link state.choice origin) (skipped millis why) (skipped millis (NotChosen None)) tt tt
event_no_end state any.untimed = tt
event_no_end state any.section = tt
event_no_end state (any.described name) = tt
event_no_end state any.passed = tt
event_no_end state any.ended = ending_no_end state.link

fault_no_end : (cut : Bool) (fault : ContainerFault) → IsNoEnd (if cut then Ok (skipped 0 CutShort) else Err (fault_of fault))
fault_no_end true fault = tt
fault_no_end false fault = tt

given_no_end : (begun : Bool) (state : TakerState) (answer : pieces.Answer) → IfSome (given begun state answer) IsNoEnd
given_no_end begun state (Ok reported) = event_no_end state reported
given_no_end begun state (Err fault) = fault_no_end (is_cut begun fault) fault

-- ---- what is reported of packets

incomplete_no_end : (b : Bool) (one : EventSeen) → IsNoEnd (Ok one) → IfSome (option_map (λ (report : EventSeen). Ok report) (if b then None else Some one)) IsNoEnd
incomplete_no_end true one is = tt
incomplete_no_end false one is = is

by_no_end : (link : Option Link) (state : TakerState) → IfSome (option_map (λ (report : EventSeen). Ok report) (report_by link state)) IsNoEnd
by_no_end None state = incomplete_no_end state.is_reported (skipped 0 (Incomplete (incomplete_of state))) tt
by_no_end (Some link) state = tt

report_no_end : (state : TakerState) → IfSome (report_given state) IsNoEnd
report_no_end state = by_no_end state.link_of_packet state

reports_no_end : (state : TakerState) (later : TakerState → List Answer) → ((after : TakerState) → NoEnd (later after)) → NoEnd (reports_first state later)
reports_no_end state later none =
    put_no_end (report_given state) (put (report_given (reported state)) (later (reported (reported state)))) (report_no_end state)
    (put_no_end (report_given (reported state)) (later (reported (reported state))) (report_no_end (reported state)) (none (reported (reported state))))

-- ---- one file after the other

module _ (behind : TakerState → List Answer) (none : (state : TakerState) → NoEnd (behind state)) where
  chosen_no_end : (begun : Bool) (state : TakerState) (results : List pieces.Answer) → NoEnd (chosen behind begun state results)
  unfolding chosen
  chosen_no_end begun state [] = reports_no_end state behind none
  chosen_no_end begun state (answer ∷ later) = reports_no_end state
      (λ after. put (given begun after answer) (chosen behind true (state_then after answer) later))
      (λ after. put_no_end (given begun after answer) (chosen behind true (state_then after answer) later) (given_no_end begun after answer) (chosen_no_end true (state_then after answer) later))

-- the file itself ends in a fault
unopened_no_end : (behind : TakerState → List Answer) (state : TakerState) → NoEnd (chosen behind true state (pieces.answers no_bytes))
unfolding chosen
unopened_no_end behind state = reports_no_end state
    (λ after. put (given true after (Err Magic)) (chosen behind true (state_then after (Err Magic)) []))
    (λ after. (tt, tt))

files_no_end : (before after : List (List ℕ)) (state : TakerState) → NoEnd (next_files (before ++ (no_bytes ∷ after)) state)
unfolding next_files
files_no_end [] after state = (tt, unopened_no_end (next_files after) (in_next_file state))
files_no_end (file ∷ before) after state =
    (tt, chosen_no_end (next_files (before ++ (no_bytes ∷ after))) (files_no_end before after) true (in_next_file state) (pieces.answers file))

pub unopened_never_ends : (choice : Choice) (first : List ℕ) (before after : List (List ℕ)) → NoEnd (answers_of_files choice (first ∷ (before ++ (no_bytes ∷ after))))
unopened_never_ends choice first before after =
    chosen_no_end (next_files (before ++ (no_bytes ∷ after))) (files_no_end before after) false (taker_of choice) (pieces.answers first)
