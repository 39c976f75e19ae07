-- A merge of all records, and one of the chosen records alone.
use Rattle.std.proofs.Common.{◌≡◌, ◌∙◌, ◌⊎◌, ◌+◌, ℕ, zero, suc, nat_lt, Bool, true, false, not, cond, List, [], ◌∷◌}
use Rattle.std.proofs.Common.{map, Option, None, Some, Ok, Err, is_some, slice_index_or, if◌then◌else◌}
use Rattle.std.proofs.Common.{ap, sym, refl, subst, inl, inr, arith}
use Rattle.std.specs.List.{AllByRecursion}
use Rattle.std.proofs.lemmas.Bool.{false≢true}
use Rattle.std.proofs.lemmas.Bool.Decides.{nat_tests}
use Rattle.pim_capture.specs.declared.event.Why.TheVariants.{NotChosen, Copy}
use Rattle.pim_capture.specs.declared.fault.CaptureFault.{CaptureFault}
use Rattle.pim_capture.specs.Capture.{EventSeen, packet, skipped, ended, Answer}
use Rattle.pim_merge.specs.declared.clock.Clock.{Clock}
use Rattle.pim_merge.specs.Merge.{behind_head, head_of, event_time, clock_after, moment_of, never, rank_of}
use Rattle.pim_merge.specs.Merge.{or_fault, fault_from, sooner, numbered, earliest_from, turn_at, turn_or, turn_ranked}
use Rattle.pim_merge.specs.Merge.{Outcome, fails, takes, ends, taken, turn, after_turn, Taken, ending, IsMergeBy}
use Rattle.pim_choice_laws.specs.Choices.{is_unchosen_event, is_unchosen, only_chosen, chosen_taken}

abbrev Captures : Type 0
Captures = List (List Answer)

abbrev Fault : Type 0
Fault = ℕ × CaptureFault

-- the head of the capture with this number
abbrev head_at : Captures → ℕ → Answer
head_at captures number = head_of (slice_index_or captures number [])

-- the captures without unchosen records
abbrev chosen : Captures → Captures
chosen captures = map only_chosen captures

-- the first fault among the heads from this number on
abbrev head_fault : ℕ → Captures → Option Fault
head_fault start captures = fault_from start (map head_of captures)

-- the first of the least ranks of the heads from this number on
abbrev head_first : ℕ → Captures → Option (ℕ × ℕ)
head_first start captures = earliest_from start (map (λ capture. rank_of never (head_of capture)) captures)

-- ---- one capture

-- what is behind an unchosen head is all that the filter leaves
skips : (capture : List Answer) → is_unchosen (head_of capture) ≡ true
    → only_chosen (behind_head capture) ≡ only_chosen capture
skips [] e = refl
skips (answer ∷ later) e = rw e refl

abbrev HasChosenHead : List Answer → Type 0
HasChosenHead capture = is_unchosen (head_of capture) ≡ false

keeps_head : (capture : List Answer) → HasChosenHead capture → head_of (only_chosen capture) ≡ head_of capture
keeps_head [] e = refl
keeps_head (answer ∷ later) e = rw e refl

keeps_behind : (capture : List Answer) → HasChosenHead capture
    → behind_head (only_chosen capture) ≡ only_chosen (behind_head capture)
keeps_behind [] e = refl
keeps_behind (answer ∷ later) e = rw e refl

-- ---- captures whose heads are chosen

AreChosen : Captures → Type 0
AreChosen captures = AllByRecursion HasChosenHead captures

-- what is made of each head
of_heads : {A : Type 0} (made : Answer → A) (captures : Captures) → AreChosen captures
    → map (λ (capture : List Answer). made (head_of capture)) (chosen captures)
    ≡ map (λ capture. made (head_of capture)) captures
unfolding AreChosen
of_heads made [] are = refl
of_heads made (capture ∷ captures) are =
    ap (λ it. made it ∷ map (λ it. made (head_of it)) (chosen captures)) (keeps_head capture are.0)
    ∙ ap (λ it. made (head_of capture) ∷ it) (of_heads made captures are.1)

same_head : (captures : Captures) (number : ℕ) → AreChosen captures
    → head_at (chosen captures) number ≡ head_at captures number
unfolding AreChosen
same_head [] number are = refl
same_head (capture ∷ captures) zero are = keeps_head capture are.0
same_head (capture ∷ captures) (suc number) are = same_head captures number are.1

after_chosen : (captures : Captures) (number : ℕ) → AreChosen captures
    → after_turn number (chosen captures) ≡ chosen (after_turn number captures)
unfolding AreChosen
after_chosen [] number are = refl
after_chosen (capture ∷ captures) zero are = ap (λ it. it ∷ chosen captures) (keeps_behind capture are.0)
after_chosen (capture ∷ captures) (suc number) are =
    ap (λ it. only_chosen capture ∷ it) (after_chosen captures number are.1)

same_turn : (captures : Captures) → AreChosen captures → turn (chosen captures) ≡ turn captures
unfolding turn_ranked
same_turn captures are =
    ap (λ it. turn_or (rank_of never) (chosen captures) (fault_from 0 it)) (of_heads (λ answer. answer) captures are)
    ∙ by (head_fault 0 captures)
  where
    at : (found : Option (ℕ × ℕ)) → turn_at (chosen captures) found ≡ turn_at captures found
    at None = refl
    at (Some (number, rank)) = ap (taken number) (same_head captures number are)

    by : (failed : Option Fault)
        → turn_or (rank_of never) (chosen captures) failed ≡ turn_or (rank_of never) captures failed
    by (Some (number, fault)) = refl
    by None =
        ap (λ it. turn_at (chosen captures) (earliest_from 0 it)) (of_heads (rank_of never) captures are)
        ∙ at (head_first 0 captures)

-- ---- the first capture whose head is unchosen, if there is one

record FirstUnchosen (start : ℕ) (captures : Captures) : Type 0 where
  at : ℕ
  number : ℕ
  is : number ≡ start + at
  found : head_first start captures ≡ Some (number, 0)
  unchosen : is_unchosen (head_at captures at) ≡ true

unchosen_rank : (answer : Answer) → is_unchosen answer ≡ true → rank_of never answer ≡ Some 0
unchosen_rank (Ok (skipped millis (NotChosen link))) e = refl
unchosen_rank (Ok (skipped millis Copy)) e = refl
unchosen_rank (Ok (skipped millis _)) e = absurd (false≢true e)
unchosen_rank (Ok (packet millis frame datagram)) e = absurd (false≢true e)
unchosen_rank (Ok ended) e = absurd (false≢true e)
unchosen_rank (Err fault) e = absurd (false≢true e)

none_below : (n : ℕ) → nat_lt n 0 ≡ false
none_below n = grind (arith, nat_tests)

least_is_first : (number : ℕ) (other : Option (ℕ × ℕ)) → sooner (Some (number, 0)) other ≡ Some (number, 0)
least_is_first number None = refl
least_is_first number (Some other) = ap (λ it. if it then Some other else Some (number, 0)) (none_below other.1)

below_all : (n : ℕ) → nat_lt 0 (suc n) ≡ true
below_all n = grind (arith, nat_tests)

less_is_first : (number other time : ℕ) → sooner (Some (number, suc time)) (Some (other, 0)) ≡ Some (other, 0)
less_is_first number other time = ap (λ it. if it then Some (other, 0) else Some (number, suc time)) (below_all time)

later_is_first : (number other : ℕ) (answer : Answer) → is_unchosen answer ≡ false
    → sooner (numbered number (rank_of never answer)) (Some (other, 0)) ≡ Some (other, 0)
later_is_first number other (Ok (skipped millis (NotChosen link))) e = absurd (false≢true (sym e))
later_is_first number other (Ok (skipped millis Copy)) e = absurd (false≢true (sym e))
later_is_first number other (Ok (skipped millis _)) e = less_is_first number other millis
later_is_first number other (Ok (packet millis frame datagram)) e = less_is_first number other millis
later_is_first number other (Ok ended) e = refl
later_is_first number other (Err fault) e = refl

first_unchosen : (start : ℕ) (captures : Captures) → FirstUnchosen start captures ⊎ AreChosen captures
unfolding AreChosen earliest_from
first_unchosen start [] = inr tt
first_unchosen start (capture ∷ captures) =
    by (is_unchosen (head_of capture)) refl (first_unchosen (suc start) captures)
  where
    here : is_unchosen (head_of capture) ≡ true → FirstUnchosen start (capture ∷ captures)
    here e = record {
      at = 0;
      number = start;
      is = omega arith;
      found =
          ap (λ it. sooner (numbered start it) (head_first (suc start) captures)) (unchosen_rank (head_of capture) e)
          ∙ least_is_first start (head_first (suc start) captures);
      unchosen = e;
    }

    there : HasChosenHead capture → FirstUnchosen (suc start) captures → FirstUnchosen start (capture ∷ captures)
    there e f = record {
      at = suc f.at;
      number = f.number;
      is = omega (arith, f.is);
      found =
          ap (sooner (numbered start (rank_of never (head_of capture)))) f.found
          ∙ later_is_first start f.number (head_of capture) e;
      unchosen = f.unchosen;
    }

    by : (b : Bool) → is_unchosen (head_of capture) ≡ b → FirstUnchosen (suc start) captures ⊎ AreChosen captures
        → FirstUnchosen start (capture ∷ captures) ⊎ AreChosen (capture ∷ captures)
    by true e later = inl (here e)
    by false e (inl f) = inl (there e f)
    by false e (inr are) = inr (e, are)

-- ---- what a turn takes

is_failure : Outcome → Bool
is_failure (fails number fault) = true
is_failure _ = false

unless_fails : (captures : Captures) (outcome : Outcome) → is_failure outcome ≡ false → turn captures ≡ outcome
    → turn_at captures (head_first 0 captures) ≡ outcome
unfolding is_failure turn_ranked
unless_fails captures outcome e turns = by (head_fault 0 captures) turns
  where
    by : (failed : Option Fault) → turn_or (rank_of never) captures failed ≡ outcome
        → turn_at captures (head_first 0 captures) ≡ outcome
    by None turns = turns
    by (Some (number, fault)) turns = absurd (false≢true (sym e ∙ ap is_failure (sym turns)))

head_is : (one number : ℕ) (answer : Answer) (reported : EventSeen) → taken one answer ≡ takes number reported
    → answer ≡ Ok reported
head_is one number (Ok it) reported e = cc
head_is one number (Err fault) reported e = absurd cc

number_is : (one number : ℕ) (answer : Answer) (reported : EventSeen) → taken one answer ≡ takes number reported
    → one ≡ number
number_is one number (Ok it) reported e = cc
number_is one number (Err fault) reported e = absurd cc

head_taken : (captures : Captures) (number : ℕ) (reported : EventSeen) → turn captures ≡ takes number reported
    → head_at captures number ≡ Ok reported
unfolding is_failure
head_taken captures number reported turns =
    by (head_first 0 captures) (unless_fails captures (takes number reported) refl turns)
  where
    by : (found : Option (ℕ × ℕ)) → turn_at captures found ≡ takes number reported
        → head_at captures number ≡ Ok reported
    by None e = absurd cc
    by (Some (one, rank)) e =
        subst (λ it. head_at captures it ≡ Ok reported) (number_is one number (head_at captures one) reported e)
        (head_is one number (head_at captures one) reported e)

-- an unchosen head is taken before all chosen ones
takes_unchosen : (captures : Captures) (number : ℕ) (reported : EventSeen) → FirstUnchosen 0 captures
    → turn captures ≡ takes number reported → is_unchosen_event reported ≡ true
unfolding is_failure
takes_unchosen captures number reported f turns =
    let at : turn_at captures (Some (f.number, 0)) ≡ takes number reported =
    ap (turn_at captures) (sym f.found) ∙ unless_fails captures (takes number reported) refl turns in
    let same : f.at ≡ f.number = omega (arith, f.is) in
    ap is_unchosen (sym (head_is f.number number (head_at captures f.number) reported at))
    ∙ subst (λ it. is_unchosen (head_at captures it) ≡ true) same f.unchosen

chosen_if_takes : (captures : Captures) (number : ℕ) (reported : EventSeen) → turn captures ≡ takes number reported
    → is_unchosen_event reported ≡ false → AreChosen captures
chosen_if_takes captures number reported turns e = by (first_unchosen 0 captures)
  where
    by : FirstUnchosen 0 captures ⊎ AreChosen captures → AreChosen captures
    by (inl f) = absurd (false≢true (sym e ∙ takes_unchosen captures number reported f turns))
    by (inr are) = are

taken_ends : (number : ℕ) (answer : Answer) → taken number answer ≡ ends → ⊥
taken_ends number (Ok reported) e = cc
taken_ends number (Err fault) e = cc

chosen_if_ends : (captures : Captures) → turn captures ≡ ends → AreChosen captures
unfolding is_failure
chosen_if_ends captures turns = by (first_unchosen 0 captures)
  where
    by : FirstUnchosen 0 captures ⊎ AreChosen captures → AreChosen captures
    by (inl f) = absurd
        (taken_ends f.number (head_at captures f.number)
        (ap (turn_at captures) (sym f.found) ∙ unless_fails captures ends refl turns))
    by (inr are) = are

-- what a turn leaves that takes an unchosen head
after_unchosen : (captures : Captures) (number : ℕ) → is_unchosen (head_at captures number) ≡ true
    → chosen (after_turn number captures) ≡ chosen captures
after_unchosen [] number e = refl
after_unchosen (capture ∷ captures) zero e = ap (λ it. it ∷ chosen captures) (skips capture e)
after_unchosen (capture ∷ captures) (suc number) e =
    ap (λ it. only_chosen capture ∷ it) (after_unchosen captures number e)

unchosen_time : (reported : EventSeen) → is_unchosen_event reported ≡ true → event_time reported ≡ None
unchosen_time (skipped millis (NotChosen link)) e = refl
unchosen_time (skipped millis Copy) e = refl
unchosen_time (skipped millis _) e = absurd (false≢true e)
unchosen_time (packet millis frame datagram) e = absurd (false≢true e)
unchosen_time ended e = refl

-- ---- a turn that fails

behind_too : (number : ℕ) (answer : Answer) (later : Option Fault) → is_some later ≡ true
    → is_some (or_fault number answer later) ≡ true
behind_too number (Ok reported) later e = e
behind_too number (Err fault) later e = refl

fault_is_told : (start : ℕ) (captures : Captures) (number : ℕ) (fault : CaptureFault)
    → head_at captures number ≡ Err fault → is_some (head_fault start captures) ≡ true
unfolding fault_from
fault_is_told start [] number fault e = absurd cc
fault_is_told start (capture ∷ captures) zero fault e =
    ap (λ it. is_some (or_fault start it (head_fault (suc start) captures))) e
fault_is_told start (capture ∷ captures) (suc number) fault e =
    behind_too start (head_of capture) (head_fault (suc start) captures)
    (fault_is_told (suc start) captures number fault e)

fault_stays : (start : ℕ) (captures : Captures) → is_some (head_fault start captures) ≡ true
    → is_some (head_fault start (chosen captures)) ≡ true
unfolding fault_from
fault_stays start [] e = e
fault_stays start ([] ∷ captures) e = fault_stays (suc start) captures e
fault_stays start ((Ok reported ∷ later) ∷ captures) e =
    behind_too start (head_of (only_chosen (Ok reported ∷ later))) (head_fault (suc start) (chosen captures))
    (fault_stays (suc start) captures e)
fault_stays start ((Err fault ∷ later) ∷ captures) e = refl

fault_taken : (one number : ℕ) (fault : CaptureFault) (answer : Answer) → taken one answer ≡ fails number fault
    → answer ≡ Err fault
fault_taken one number fault (Ok reported) e = absurd cc
fault_taken one number fault (Err it) e = cc

fails_by_fault : (captures : Captures) (number : ℕ) (fault : CaptureFault) → turn captures ≡ fails number fault
    → is_some (head_fault 0 captures) ≡ true
unfolding turn_ranked
fails_by_fault captures number fault turns = by (head_fault 0 captures) refl turns
  where
    at : (found : Option (ℕ × ℕ)) → turn_at captures found ≡ fails number fault → is_some (head_fault 0 captures) ≡ true
    at None e = absurd cc
    at (Some (one, rank)) e =
        fault_is_told 0 captures one fault (fault_taken one number fault (head_at captures one) e)

    by : (failed : Option Fault) → head_fault 0 captures ≡ failed
        → turn_or (rank_of never) captures failed ≡ fails number fault → is_some failed ≡ true
    by None is e = ap is_some (sym is) ∙ at (head_first 0 captures) e
    by (Some told) is e = refl

-- ---- the whole merge

-- a merge of these captures takes these records, and ends in a fault exactly if this is one
record Filtered (clock : Option Clock) (captures : Captures) (taken : List Taken) (fault : Option Fault) : Type 0 where
  other : Option Fault
  alike : is_some other ≡ is_some fault
  is : IsMergeBy None clock captures taken other

last_turn : (captures : Captures) (clock : Option Clock) (fault : Option Fault) → turn captures ≡ ending fault
    → Filtered clock (chosen captures) [] fault
unfolding IsMergeBy turn_ranked
last_turn captures clock None turns =
    record { other = None; alike = refl; is = same_turn captures (chosen_if_ends captures turns) ∙ turns }
last_turn captures clock (Some (number, fault)) turns =
    by (head_fault 0 (chosen captures)) refl (fault_stays 0 captures (fails_by_fault captures number fault turns))
  where
    by : (failed : Option Fault) → head_fault 0 (chosen captures) ≡ failed
        → is_some (head_fault 0 (chosen captures)) ≡ true → Filtered clock (chosen captures) [] (Some (number, fault))
    by None is some = absurd (false≢true (ap is_some (sym is) ∙ some))
    by (Some (told, it)) is some =
        record { other = Some (told, it); alike = refl; is = ap (turn_or (rank_of never) (chosen captures)) is }

-- the clock after a record
abbrev clock_with : Option Clock → Taken → Option Clock
clock_with clock first = clock_after clock (event_time first.reported)

one_turn : (clock : Option Clock) (captures : Captures) (first : Taken) (others : List Taken) (fault : Option Fault)
    → turn captures ≡ takes first.capture first.reported → first.moment ≡ moment_of (clock_with clock first)
    → Filtered (clock_with clock first) (chosen (after_turn first.capture captures)) (chosen_taken others) fault
    → (b : Bool) → is_unchosen_event first.reported ≡ b
    → Filtered clock (chosen captures) (cond (not b) (first ∷ chosen_taken others) (chosen_taken others)) fault
unfolding IsMergeBy
one_turn clock captures first others fault turns moment f true e =
    let head = ap is_unchosen (head_taken captures first.capture first.reported turns) ∙ e in
    subst (λ it. Filtered it (chosen captures) (chosen_taken others) fault)
    (ap (clock_after clock) (unchosen_time first.reported e))
    (subst (λ it. Filtered (clock_with clock first) it (chosen_taken others) fault)
    (after_unchosen captures first.capture head) f)
one_turn clock captures first others fault turns moment f false e =
    let are = chosen_if_takes captures first.capture first.reported turns e in
    let later = subst (λ it. IsMergeBy None (clock_with clock first) it (chosen_taken others) f.other)
    (sym (after_chosen captures first.capture are)) f.is in
    record { other = f.other; alike = f.alike; is = (same_turn captures are ∙ turns, moment, later) }

filtered : (clock : Option Clock) (captures : Captures) (taken : List Taken) (fault : Option Fault)
    → IsMergeBy None clock captures taken fault → Filtered clock (chosen captures) (chosen_taken taken) fault
unfolding IsMergeBy
filtered clock captures [] fault is = last_turn captures clock fault is
filtered clock captures (first ∷ others) fault (turns, moment, more) =
    one_turn clock captures first others fault turns moment
    (filtered (clock_with clock first) (after_turn first.capture captures) others fault more)
    (is_unchosen_event first.reported) refl

pub choices_are_filters : (clock : Option Clock) (captures : Captures) (taken : List Taken)
    → IsMergeBy None clock captures taken None → IsMergeBy None clock (chosen captures) (chosen_taken taken) None
choices_are_filters clock captures taken is = by f.other f.alike f.is
  where
    f : Filtered clock (chosen captures) (chosen_taken taken) None
    f = filtered clock captures taken None is

    by : (other : Option Fault) → is_some other ≡ false
        → IsMergeBy None clock (chosen captures) (chosen_taken taken) other
        → IsMergeBy None clock (chosen captures) (chosen_taken taken) None
    by None alike is = is
    by (Some other) alike is = absurd (false≢true (sym alike))

pub both_end_in_a_fault : (clock : Option Clock) (captures : Captures) (taken : List Taken) (fault : Fault)
    → IsMergeBy None clock captures taken (Some fault)
    → (other : Fault) × IsMergeBy None clock (chosen captures) (chosen_taken taken) (Some other)
both_end_in_a_fault clock captures taken fault is = by f.other f.alike f.is
  where
    f : Filtered clock (chosen captures) (chosen_taken taken) (Some fault)
    f = filtered clock captures taken (Some fault) is

    by : (other : Option Fault) → is_some other ≡ true
        → IsMergeBy None clock (chosen captures) (chosen_taken taken) other
        → (other : Fault) × IsMergeBy None clock (chosen captures) (chosen_taken taken) (Some other)
    by None alike is = absurd (false≢true alike)
    by (Some other) alike is = (other, is)
