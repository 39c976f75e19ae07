-- A merge of classic captures, and of the same as any container gives them.
use Rattle.pim_merge.proofs.Words.{◌≡◌, ◌∙◌, ◌⊎◌, ◌+◌, ℕ, zero, suc, nat_lt, Bool, true, false, ◌||◌, List, [], ◌∷◌, map, Option}
use Rattle.pim_merge.proofs.Words.{None, Some, Ok, Err, ap, sym, refl, subst, inl, inr, slice_index_or, if◌then◌else◌, arith}
use Rattle.pim_merge.proofs.Words.{list_any, AllByRecursion, false≢true, AddressFamily, Time, CaptureFault, EventSeen, packet}
use Rattle.pim_merge.proofs.Words.{skipped, ended, Answer, in_front, Clock, head_of, behind_head, event_time, event_rank, rank_of}
use Rattle.pim_merge.proofs.Words.{or_fault, fault_from, sooner, numbered, earliest_from, Outcome, fails, takes, ends, taken}
use Rattle.pim_merge.proofs.Words.{turn_at, turn_or, turn_ranked, past_at, after_turn, clock_after, moment_of, is_past, until, turn_by, Taken}
use Rattle.pim_merge.proofs.Words.{ending, IsMergeBy, content_in, event_as_any, as_any, all_as_any, is_truncated, IsWhole}
use Rattle.pim_merge.proofs.Words.{taken_as_any}
use Rattle.pim_capture.specs.declared.fault.CaptureFault.TheVariants as fault

-- ---- one head

in_front_first : (answer : Answer) (later : List Answer) → head_of (in_front answer later) ≡ answer
in_front_first (Ok (packet millis frame datagram)) later = refl
in_front_first (Ok (skipped millis why)) later = refl
in_front_first (Ok ended) later = refl
in_front_first (Err fault) later = refl

head_alike : (capture : List Answer) → head_of (all_as_any capture) ≡ as_any (head_of capture)
unfolding all_as_any
head_alike [] = refl
head_alike (answer ∷ later) = in_front_first (as_any answer) (all_as_any later)

left_false : (b c : Bool) → (b || c) ≡ false → b ≡ false
left_false true c e = e
left_false false c e = refl

right_false : (b c : Bool) → (b || c) ≡ false → c ≡ false
right_false true c e = absurd (false≢true (sym e))
right_false false c e = e

whole_head : (capture : List Answer) → IsWhole capture → is_truncated (head_of capture) ≡ false
whole_head [] whole = refl
whole_head (answer ∷ later) whole = left_false (is_truncated answer) (list_any is_truncated later) whole

whole_behind : (capture : List Answer) → IsWhole capture → IsWhole (behind_head capture)
whole_behind [] whole = refl
whole_behind (answer ∷ later) whole = right_false (is_truncated answer) (list_any is_truncated later) whole

-- a fault that isn't that of a cut file stays
err_alike : (one : CaptureFault) → is_truncated (Err one) ≡ false → as_any (Err one) ≡ Err one
err_alike fault.Truncated whole = absurd (false≢true (sym whole))
err_alike fault.TooLong whole = refl
err_alike fault.Read whole = refl
err_alike fault.Magic whole = refl
err_alike fault.LinkType whole = refl
err_alike (fault.LinkNumber number) whole = refl
err_alike fault.Gzip whole = refl
err_alike fault.Block whole = refl
err_alike fault.Time whole = refl
err_alike (fault.InterfaceNames one two) whole = refl
err_alike (fault.Interfaces one two) whole = refl
err_alike (fault.Vlans one two) whole = refl
err_alike fault.Memory whole = refl
err_alike fault.Failed whole = refl

rank_told_alike : (past : ℕ → Bool) (reported : EventSeen) → event_rank past (event_as_any reported) ≡ event_rank
    past reported
rank_told_alike past (packet millis frame datagram) = refl
rank_told_alike past (skipped millis why) = refl
rank_told_alike past ended = refl

pub content_alike : (family : AddressFamily) (reported : EventSeen) → content_in family (event_as_any reported) ≡ content_in family reported
content_alike family (packet millis frame datagram) = refl
content_alike family (skipped millis why) = refl
content_alike family ended = refl

pub time_alike : (reported : EventSeen) → event_time (event_as_any reported) ≡ event_time reported
time_alike (packet millis frame datagram) = refl
time_alike (skipped millis why) = refl
time_alike ended = refl

rank_alike : (past : ℕ → Bool) (answer : Answer) → is_truncated answer ≡ false →
    rank_of past (as_any answer) ≡ rank_of past answer
rank_alike past (Ok reported) whole = rank_told_alike past reported
rank_alike past (Err fault) whole = ap (rank_of past) (err_alike fault whole)

fault_alike : (number : ℕ) (answer : Answer) (later : Option (ℕ × CaptureFault)) → is_truncated answer ≡ false → or_fault number (as_any answer) later ≡ or_fault number answer later
fault_alike number (Ok reported) later whole = refl
fault_alike number (Err fault) later whole = ap (λ it. or_fault number it later) (err_alike fault whole)

-- the turn that takes a head
outcome_as_any : Outcome → Outcome
outcome_as_any (takes number reported) = takes number (event_as_any reported)
outcome_as_any (fails number fault) = fails number fault
outcome_as_any ends = ends

taken_alike : (number : ℕ) (answer : Answer) → is_truncated answer ≡ false → taken number (as_any answer) ≡ outcome_as_any (taken number answer)
unfolding outcome_as_any
taken_alike number (Ok reported) whole = refl
taken_alike number (Err fault) whole = ap (taken number) (err_alike fault whole)

-- ---- all heads

faults_alike : (number : ℕ) (captures : List (List Answer)) → AllByRecursion IsWhole captures → fault_from number (map head_of (map all_as_any captures)) ≡ fault_from number (map head_of captures)
unfolding fault_from
faults_alike number [] whole = refl
faults_alike number (capture ∷ captures) whole =
    ap (λ it. or_fault number it (fault_from (suc number) (map head_of (map all_as_any captures)))) (head_alike capture)
    ∙ fault_alike number (head_of capture) (fault_from (suc number) (map head_of (map all_as_any captures))) (whole_head capture whole.0)
    ∙ ap (or_fault number (head_of capture)) (faults_alike (suc number) captures whole.1)

-- the ranks of the heads
ranks : (ℕ → Bool) → List (List Answer) → List (Option ℕ)
ranks past captures = map (λ capture. rank_of past (head_of capture)) captures

ranks_alike : (past : ℕ → Bool) (captures : List (List Answer)) → AllByRecursion IsWhole captures →
    ranks past (map all_as_any captures) ≡ ranks past captures
unfolding ranks
ranks_alike past [] whole = refl
ranks_alike past (capture ∷ captures) whole =
    ap (λ it. it ∷ ranks past (map all_as_any captures)) (ap (rank_of past) (head_alike capture)
    ∙ rank_alike past (head_of capture) (whole_head capture whole.0))
    ∙ ap (λ it. rank_of past (head_of capture) ∷ it) (ranks_alike past captures whole.1)

head_at : (captures : List (List Answer)) (number : ℕ) → head_of (slice_index_or (map all_as_any captures) number []) ≡ as_any (head_of (slice_index_or captures number []))
head_at [] number = refl
head_at (capture ∷ captures) zero = head_alike capture
head_at (capture ∷ captures) (suc number) = head_at captures number

whole_at : (captures : List (List Answer)) (number : ℕ) → AllByRecursion IsWhole captures → IsWhole (slice_index_or captures number [])
whole_at [] number whole = refl
whole_at (capture ∷ captures) zero whole = whole.0
whole_at (capture ∷ captures) (suc number) whole = whole_at captures number whole.1

at_alike : (captures : List (List Answer)) (found : Option (ℕ × ℕ)) → AllByRecursion IsWhole captures → turn_at (map all_as_any captures) found ≡ outcome_as_any (turn_at captures found)
unfolding outcome_as_any
at_alike captures None whole = refl
at_alike captures (Some (number, time)) whole =
    ap (taken number) (head_at captures number) ∙ taken_alike number (head_of (slice_index_or captures number [])) (whole_head (slice_index_or captures number []) (whole_at captures number whole))

or_alike : (past : ℕ → Bool) (captures : List (List Answer)) (failed : Option (ℕ × CaptureFault)) →
    AllByRecursion IsWhole captures → turn_or (rank_of past) (map all_as_any captures) failed ≡ outcome_as_any
    (turn_or (rank_of past) captures failed)
unfolding outcome_as_any ranks
or_alike past captures (Some (number, fault)) whole = refl
or_alike past captures None whole =
    ap (λ it. turn_at (map all_as_any captures) (earliest_from 0 it)) (ranks_alike past captures whole)
    ∙ at_alike captures (earliest_from 0 (ranks past captures)) whole

turn_alike : (past : ℕ → Bool) (captures : List (List Answer)) → AllByRecursion IsWhole captures →
    turn_ranked (rank_of past) (map all_as_any captures) ≡ outcome_as_any (turn_ranked (rank_of past) captures)
unfolding turn_ranked
turn_alike past captures whole = ap (turn_or (rank_of past) (map all_as_any captures)) (faults_alike 0 captures
    whole) ∙ or_alike past captures (fault_from 0 (map head_of captures)) whole

if_ends : (past : Bool) (number : ℕ) (reported : EventSeen) → (if past then ends else takes number (event_as_any reported)) ≡ outcome_as_any (if past then ends else takes number reported)
unfolding outcome_as_any
if_ends true number reported = refl
if_ends false number reported = refl

until_alike : (last : Option Time) (clock : Option Clock) (outcome : Outcome) → until last clock (outcome_as_any outcome) ≡ outcome_as_any (until last clock outcome)
unfolding outcome_as_any
until_alike None clock outcome = refl
until_alike (Some last) clock (takes number reported) =
    ap (λ it. if is_past (Some last) (clock_after clock it) then ends else takes number (event_as_any reported)) (time_alike reported)
    ∙ if_ends (is_past (Some last) (clock_after clock (event_time reported))) number reported
until_alike (Some last) clock (fails number fault) = refl
until_alike (Some last) clock ends = refl

turn_by_alike : (last : Option Time) (clock : Option Clock) (captures : List (List Answer)) → AllByRecursion IsWhole captures → turn_by last clock (map all_as_any captures) ≡ outcome_as_any (turn_by last clock captures)
turn_by_alike last clock captures whole = ap (until last clock) (turn_alike (past_at last clock) captures whole)
    ∙ until_alike last clock (turn_ranked (rank_of (past_at last clock)) captures)

-- ---- a head that is taken is a record

takes_same : (one other : ℕ) (reported reported' : EventSeen) → takes one reported ≡ takes other reported' → one ≡ other
takes_same one other reported reported' e = cc

number_of_taken : (number' number : ℕ) (answer : Answer) (reported : EventSeen) → taken number' answer ≡ takes number reported → number' ≡ number
number_of_taken number' number (Ok it) reported e = takes_same number' number it reported e
number_of_taken number' number (Err fault) reported e = absurd cc

if_takes : (past : Bool) (number number' : ℕ) (reported reported' : EventSeen) → (if past then ends else takes number reported) ≡ takes number' reported' → takes number reported ≡ takes number' reported'
if_takes true number number' reported reported' e = absurd cc
if_takes false number number' reported reported' e = e

until_takes : (last : Option Time) (clock : Option Clock) (outcome : Outcome) (number : ℕ) (reported : EventSeen) → until last clock outcome ≡ takes number reported → outcome ≡ takes number reported
until_takes None clock outcome number reported e = e
until_takes (Some last) clock (takes number' reported') number reported e = if_takes (is_past (Some last) (clock_after clock (event_time reported'))) number' number reported' reported e
until_takes (Some last) clock (fails number' fault) number reported e = absurd cc
until_takes (Some last) clock ends number reported e = absurd cc

if_either : (test : Bool) (one other found : ℕ × ℕ) → (if test then Some other else Some one) ≡ Some found → (Some one ≡ Some found) ⊎ (Some other ≡ Some found)
if_either true one other found e = inr e
if_either false one other found e = inl e

one_of_both : (one other : Option (ℕ × ℕ)) (found : ℕ × ℕ) → sooner one other ≡ Some found → (one ≡ Some found) ⊎ (other ≡ Some found)
one_of_both None other found e = inr e
one_of_both (Some one) None found e = inl e
one_of_both (Some one) (Some other) found e = if_either (nat_lt other.1 one.1) one other found e

-- the number that was found is that of a capture whose head has a rank
record Found (past : ℕ → Bool) (start : ℕ) (captures : List (List Answer)) (number time : ℕ) : Type 0 where
  at : ℕ
  is : number ≡ start + at
  ranked : rank_of past (head_of (slice_index_or captures at [])) ≡ Some time

some_is : (one other : ℕ × ℕ) → Some one ≡ Some other → one ≡ other
some_is one other e = cc

first_found : (past : ℕ → Bool) (start number time : ℕ) (capture : List Answer) (captures : List (List Answer))
    (rank : Option ℕ) → rank_of past (head_of capture) ≡ rank → numbered start rank ≡ Some (number, time) →
    Found past start (capture ∷ captures) number time
first_found past start number time capture captures None is e = absurd cc
first_found past start number time capture captures (Some rank) is e =
    let pair = some_is (start, rank) (number, time) e in
    let same : start ≡ number = ap (λ it. it.0) pair in
    record { at = 0; is = omega (arith, same); ranked = is ∙ ap (λ it. Some it.1) pair }

later_found : (past : ℕ → Bool) (start number time : ℕ) (capture : List Answer) (captures : List (List Answer)) →
    Found past (suc start) captures number time → Found past start (capture ∷ captures) number time
later_found past start number time capture captures f = record {
  at = suc f.at;
  is = omega (arith, f.is);
  ranked =
      f.ranked;
}

found_either : (past : ℕ → Bool) (start number time : ℕ) (capture : List Answer) (captures : List (List Answer)) →
    (numbered start (rank_of past (head_of capture)) ≡ Some (number, time)) ⊎ (earliest_from (suc start) (ranks past
    captures) ≡ Some (number, time))
    → (earliest_from (suc start) (ranks past captures) ≡ Some (number, time) →
    Found past (suc start) captures number time) → Found past start (capture ∷ captures) number time
found_either past start number time capture captures (inl e) k = first_found past start number time capture captures
    (rank_of past (head_of capture)) refl e
found_either past start number time capture captures (inr e) k = later_found past start number time capture captures
    (k e)

has_rank : (past : ℕ → Bool) (start : ℕ) (captures : List (List Answer)) (number time : ℕ) →
    earliest_from start (ranks past captures) ≡ Some (number, time) → Found past start captures number time
unfolding earliest_from ranks
has_rank past start [] number time e = absurd cc
has_rank past start (capture ∷ captures) number time e =
    found_either past start number time capture captures (one_of_both (numbered start (rank_of past (head_of
    capture))) (earliest_from (suc start) (ranks past captures)) (number, time) e) (has_rank past (suc start)
    captures number time)

-- what is behind a record
behind_alike : (past : ℕ → Bool) (capture : List Answer) (time : ℕ) → rank_of past (head_of capture) ≡ Some time →
    behind_head (all_as_any capture) ≡ all_as_any (behind_head capture)
unfolding all_as_any
behind_alike past [] time e = absurd cc
behind_alike past (Ok (packet millis frame datagram) ∷ later) time e = refl
behind_alike past (Ok (skipped millis why) ∷ later) time e = refl
behind_alike past (Ok ended ∷ later) time e = absurd cc
behind_alike past (Err fault ∷ later) time e = absurd cc

after_alike : (past : ℕ → Bool) (captures : List (List Answer)) (number time : ℕ) →
    rank_of past (head_of (slice_index_or captures number [])) ≡ Some time →
    after_turn number (map all_as_any captures) ≡ map all_as_any (after_turn number captures)
after_alike past [] number time e = absurd cc
after_alike past (capture ∷ captures) zero time e = ap (λ it. it ∷ map all_as_any captures) (behind_alike past
    capture time e)
after_alike past (capture ∷ captures) (suc number) time e = ap (λ it. all_as_any capture ∷ it) (after_alike past
    captures number time e)

whole_after : (captures : List (List Answer)) (number : ℕ) → AllByRecursion IsWhole captures → AllByRecursion IsWhole (after_turn number captures)
whole_after [] number whole = tt
whole_after (capture ∷ captures) zero whole = (whole_behind capture whole.0, whole.1)
whole_after (capture ∷ captures) (suc number) whole = (whole.0, whole_after captures number whole.1)

taken_at : (past : ℕ → Bool) (captures : List (List Answer)) (found : Option (ℕ × ℕ)) (number : ℕ) (reported :
    EventSeen) → earliest_from 0 (ranks past captures) ≡ found → turn_at captures found ≡ takes number reported
    → after_turn number (map all_as_any captures) ≡ map all_as_any (after_turn number captures)
taken_at past captures None number reported is e = absurd cc
taken_at past captures (Some (number', time)) number reported is e =
    let f = has_rank past 0 captures number' time is in
    let same : number' ≡ number = number_of_taken number' number (head_of (slice_index_or captures number' [])) reported e in
    let here : f.at ≡ number = omega (arith, f.is, same) in
    after_alike past captures number time (subst (λ it. rank_of past (head_of (slice_index_or captures it [])) ≡
    Some time) here f.ranked)

taken_or : (past : ℕ → Bool) (captures : List (List Answer)) (failed : Option (ℕ × CaptureFault)) (number : ℕ)
    (reported : EventSeen) → turn_or (rank_of past) captures failed ≡ takes number reported
    → after_turn number (map all_as_any captures) ≡ map all_as_any (after_turn number captures)
unfolding ranks
taken_or past captures (Some (number', fault)) number reported e = absurd cc
taken_or past captures None number reported e = taken_at past captures (earliest_from 0 (ranks past captures))
    number reported refl e

after_taken : (past : ℕ → Bool) (captures : List (List Answer)) (number : ℕ) (reported : EventSeen) →
    turn_ranked (rank_of past) captures ≡ takes number reported →
    after_turn number (map all_as_any captures) ≡ map all_as_any (after_turn number captures)
unfolding turn_ranked
after_taken past captures number reported e = taken_or past captures (fault_from 0 (map head_of captures)) number
    reported e

-- ---- the whole merge

ending_alike : (fault : Option (ℕ × CaptureFault)) → outcome_as_any (ending fault) ≡ ending fault
unfolding outcome_as_any
ending_alike None = refl
ending_alike (Some (number, fault)) = refl

pub merges_alike : (last : Option Time) (clock : Option Clock) (captures : List (List Answer)) (taken : List Taken) (fault : Option (ℕ × CaptureFault)) → AllByRecursion IsWhole captures
    → IsMergeBy last clock captures taken fault → IsMergeBy last clock (map all_as_any captures) (map taken_as_any taken) fault
unfolding IsMergeBy outcome_as_any
merges_alike last clock captures [] fault whole is = turn_by_alike last clock captures whole ∙ ap outcome_as_any is ∙ ending_alike fault
merges_alike last clock captures (first ∷ others) fault whole (turns, moment, more) =
    let same : clock_after clock (event_time (event_as_any first.reported)) ≡ clock_after clock (event_time first.reported) = ap (clock_after clock) (time_alike first.reported) in
    let later = merges_alike last (clock_after clock (event_time first.reported)) (after_turn first.capture captures) others fault (whole_after captures first.capture whole) more in
    let behind = after_taken (past_at last clock) captures first.capture first.reported (until_takes last clock
    (turn_ranked (rank_of (past_at last clock)) captures) first.capture first.reported turns) in (
      turn_by_alike last clock captures whole ∙ ap outcome_as_any turns,
      moment ∙ ap moment_of (sym same),
      subst (λ it. IsMergeBy last it (after_turn first.capture (map all_as_any captures)) (map taken_as_any others) fault) (sym same)
          (subst (λ it. IsMergeBy last (clock_after clock (event_time first.reported)) it (map taken_as_any others) fault) (sym behind) later),
    )
