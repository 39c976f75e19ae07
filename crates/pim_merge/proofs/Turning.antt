-- What the turn of a merge is, by what was read of its captures.
use Rattle.pim_merge.proofs.Words.{◌≡◌, ◌<◌, ◌+◌, ◌∙◌, ◌∷◌, [], ℕ, zero, suc, List, Option, None, Some, Ok, Err, Bool}
use Rattle.pim_merge.proofs.Words.{true, false, length, slice_index_or, get_or, set, take, drop, map, is_some, nat_lt, if◌then◌else◌}
use Rattle.pim_merge.proofs.Words.{refl, sym, ap, subst, arith, ◌⊎◌, inl, inr, AllByRecursion, option_map, CaptureFault}
use Rattle.pim_merge.proofs.Words.{EventSeen, packet, skipped, ended, Answer, in_front, head_of, rank_of, or_fault}
use Rattle.pim_merge.proofs.Words.{fault_from, sooner, numbered, earliest_from, turn_at, turn, turn_or, turn_ranked, taken, fails, LaneState}
use Rattle.pim_merge.proofs.Words.{coming_on, IsComing, IsLooked, rank_at, head_rank, with_head}

-- ---- the head that was read is the head of what comes

abbrev pub some_list : Option (List Answer) → List Answer
some_list None = []
some_list (Some answers) = answers

pub told_comes : (reported : EventSeen) (behind : Option (List Answer)) (capture : List Answer) → option_map (in_front (Ok reported)) behind ≡ Some capture → head_of capture ≡ Ok reported
told_comes reported None capture comes = absurd cc
told_comes (packet millis frame datagram) (Some later) capture comes = subst (λ c. head_of c ≡ Ok (packet millis frame datagram)) (ap some_list comes) refl
told_comes (skipped millis why) (Some later) capture comes = subst (λ c. head_of c ≡ Ok (skipped millis why)) (ap some_list comes) refl
told_comes ended (Some later) capture comes = subst (λ c. head_of c ≡ Ok ended) (ap some_list comes) refl

-- no fault is told where a head was read
reads_no_fault : (lane : LaneState) (capture : List Answer) (number : ℕ) (later : Option (ℕ × CaptureFault)) → IsLooked lane → coming_on lane ≡ Some capture → or_fault number (head_of capture) later ≡ later
reads_no_fault lane capture number later looked comes = by lane.head lane.behind looked comes
  where
    by : (head : Option EventSeen) (behind : Option (List Answer)) → is_some head ≡ true → with_head head behind ≡ Some capture → or_fault number (head_of capture) later ≡ later
    by None behind looked comes = absurd cc
    by (Some reported) behind looked comes = rw (told_comes reported behind capture comes) refl

same_rank : (past : ℕ → Bool) (lane : LaneState) (capture : List Answer) → IsLooked lane →
    coming_on lane ≡ Some capture → rank_of past (head_of capture) ≡ head_rank past lane
same_rank past lane capture looked comes = by lane.head lane.behind looked comes
  where
    by : (head : Option EventSeen) (behind : Option (List Answer)) → is_some head ≡ true →
        with_head head behind ≡ Some capture → rank_of past (head_of capture) ≡ rank_at past head
    by None behind looked comes = absurd cc
    by (Some reported) behind looked comes = rw (told_comes reported behind capture comes) refl

-- ---- a fault

-- the first fault is that of the capture before which all heads were read
first_fault : (start i number : ℕ) (lanes : List LaneState) (captures : List (List Answer)) (fault : CaptureFault) → number ≡ start + i → i < length lanes → AllByRecursion IsLooked (take i lanes)
    → IsComing lanes captures → fault_from start (map head_of (set captures i (Err fault ∷ []))) ≡ Some (number, fault)
unfolding fault_from
first_fault start i number [] captures fault at below looked coming = absurd (omega (arith, below))
first_fault start i number (lane ∷ lanes) [] fault at below looked coming = absurd cc
first_fault start zero number (lane ∷ lanes) (capture ∷ captures) fault at below looked coming = let same : start ≡ number = omega (arith, at) in ap (λ n. Some (n, fault)) same
first_fault start (suc i) number (lane ∷ lanes) (capture ∷ captures) fault at below looked coming =
    reads_no_fault lane capture start _ looked.0 (ap (λ l. get_or l 0 None) coming)
    ∙ first_fault (suc start) i number lanes captures fault (omega (arith, at)) (omega (arith, below)) looked.1 (ap (drop 1) coming)

pub turns_to_fault : (number : ℕ) (lanes : List LaneState) (captures : List (List Answer)) (fault : CaptureFault) → number < length lanes → AllByRecursion IsLooked (take number lanes)
    → IsComing lanes captures → turn (set captures number (Err fault ∷ [])) ≡ fails number fault
unfolding turn_ranked
turns_to_fault number lanes captures fault below looked coming = rw (first_fault 0 number number lanes captures fault (omega arith) below looked coming) refl

-- ---- no fault

-- a head that was found is no fault
is_no_fault : (start place number n : ℕ) (captures : List (List Answer)) (f : CaptureFault) →
    fault_from start (map head_of captures) ≡ None
    → taken number (head_of (slice_index_or captures place [])) ≡ fails n f → ⊥
unfolding fault_from
is_no_fault start place number n [] f none is = cc
is_no_fault start zero number n (capture ∷ captures) f none is = by (head_of capture) none is
  where
    by : (head : Answer) → or_fault start head (fault_from (suc start) (map head_of captures)) ≡ None →
        taken number head ≡ fails n f → ⊥
    by (Ok reported) none is = cc
    by (Err fault) none is = cc
is_no_fault start (suc place) number n (capture ∷ captures) f none is = is_no_fault (suc start) place number n
    captures f (by (head_of capture) none) is
  where
    by : (head : Answer) → or_fault start head (fault_from (suc start) (map head_of captures)) ≡ None →
        fault_from (suc start) (map head_of captures) ≡ None
    by (Ok reported) none = none
    by (Err fault) none = absurd cc

is_no_turn : (n : ℕ) (captures : List (List Answer)) (f : CaptureFault) (found : Option (ℕ × ℕ)) →
    fault_from 0 (map head_of captures) ≡ None → turn_at captures found ≡ fails n f → ⊥
is_no_turn n captures f None none is = cc
is_no_turn n captures f (Some (number, rank)) none is = is_no_fault 0 number number n captures f none is

-- a fault comes whatever the ranks are
pub fails_by_any : (rank rank' : Answer → Option ℕ) (captures : List (List Answer)) (n : ℕ) (f : CaptureFault) →
    turn_ranked rank captures ≡ fails n f → turn_ranked rank' captures ≡ fails n f
unfolding turn_ranked
fails_by_any rank rank' captures n f is = by (fault_from 0 (map head_of captures)) refl is
  where
    by : (first : Option (ℕ × CaptureFault)) → fault_from 0 (map head_of captures) ≡ first →
        turn_or rank captures first ≡ fails n f → turn_or rank' captures (fault_from 0 (map head_of captures)) ≡
        fails n f
    by None none is = absurd (is_no_turn n captures f (earliest_from 0 (map (λ capture. rank (head_of capture))
        captures)) none is)
    by (Some (number, fault)) e is = ap (turn_or rank' captures) e ∙ is

no_fault : (start : ℕ) (lanes : List LaneState) (captures : List (List Answer)) → AllByRecursion IsLooked lanes → IsComing lanes captures → fault_from start (map head_of captures) ≡ None
unfolding fault_from
no_fault start [] [] looked coming = refl
no_fault start [] (capture ∷ captures) looked coming = absurd cc
no_fault start (lane ∷ lanes) [] looked coming = absurd cc
no_fault start (lane ∷ lanes) (capture ∷ captures) looked coming =
    reads_no_fault lane capture start _ looked.0 (ap (λ l. get_or l 0 None) coming) ∙ no_fault (suc start) lanes captures looked.1 (ap (drop 1) coming)

same_ranks : (past : ℕ → Bool) (lanes : List LaneState) (captures : List (List Answer)) →
    AllByRecursion IsLooked lanes → IsComing lanes captures → map (λ capture. rank_of past (head_of capture))
    captures ≡ map (head_rank past) lanes
same_ranks past [] [] looked coming = refl
same_ranks past [] (capture ∷ captures) looked coming = absurd cc
same_ranks past (lane ∷ lanes) [] looked coming = absurd cc
same_ranks past (lane ∷ lanes) (capture ∷ captures) looked coming =
    let first = same_rank past lane capture looked.0 (ap (λ l. get_or l 0 None) coming) in
    let more = same_ranks past lanes captures looked.1 (ap (drop 1) coming) in
    rw (first, more) refl

-- where all heads were read, the turn goes by their ranks
pub turns_by_ranks : (past : ℕ → Bool) (lanes : List LaneState) (captures : List (List Answer)) (found : Option (ℕ ×
    ℕ)) → AllByRecursion IsLooked lanes → IsComing lanes captures
    → found ≡ earliest_from 0 (map (head_rank past) lanes) → turn_ranked (rank_of past) captures ≡ turn_at captures
    found
unfolding turn_ranked
turns_by_ranks past lanes captures found looked coming is = rw (
  no_fault 0 lanes captures looked coming,
  same_ranks
      past lanes captures looked coming,
  sym is,
) refl

-- ---- the head that is taken

-- the one that was found is a head, and this is its rank
pub record Stands (past : ℕ → Bool) (start : ℕ) (lanes : List LaneState) (found : ℕ × ℕ) : Type 0 where
  pub place : ℕ
  pub is : found.0 ≡ start + place
  pub within : place < length lanes
  pub there : (d : LaneState) → head_rank past (get_or lanes place d) ≡ Some found.1

one_of_both : (one other : Option (ℕ × ℕ)) (found : ℕ × ℕ) → sooner one other ≡ Some found → (one ≡ Some found) ⊎ (other ≡ Some found)
one_of_both None other found is = inr is
one_of_both (Some one) None found is = inl is
one_of_both (Some one) (Some other) found is = by (nat_lt other.1 one.1) is
  where
    by : (b : Bool) → (if b then Some other else Some one) ≡ Some found → (Some one ≡ Some found) ⊎ (Some other ≡ Some found)
    by true is = inr is
    by false is = inl is

abbrev some_pair : Option (ℕ × ℕ) → ℕ × ℕ
some_pair None = (0, 0)
some_pair (Some found) = found

first_stands : (past : ℕ → Bool) (start : ℕ) (rank : Option ℕ) (lane : LaneState) (lanes : List LaneState) (found :
    ℕ × ℕ) → head_rank past lane ≡ rank → numbered start rank ≡ Some found → Stands past start (lane ∷ lanes) found
first_stands past start None lane lanes found ranked is = absurd cc
first_stands past start (Some rank) lane lanes found ranked is =
    let same : (start, rank) ≡ found = ap some_pair is in
    record {
      place = 0;
      is = let n : start ≡ found.0 = ap (λ p. p.0) same in omega (arith, n);
      within = omega arith;
      there = λ d. ranked ∙ ap (λ (p : ℕ × ℕ). Some p.1) same;
    }

either_stands : (past : ℕ → Bool) (start : ℕ) (lane : LaneState) (lanes : List LaneState) (found : ℕ × ℕ) →
    (numbered start (head_rank past lane) ≡ Some found) ⊎ (earliest_from (suc start) (map (head_rank past) lanes) ≡
    Some found)
    → (earliest_from (suc start) (map (head_rank past) lanes) ≡ Some found → Stands past (suc start) lanes found) →
    Stands past start (lane ∷ lanes) found
either_stands past start lane lanes found (inl here) stands = first_stands past start (head_rank past lane) lane
    lanes found refl here
either_stands past start lane lanes found (inr there) stands =
    let s = stands there in
    record { place = suc s.place; is = omega (arith, s.is); within = omega (arith, s.within); there = s.there }

pub found_stands : (past : ℕ → Bool) (start : ℕ) (lanes : List LaneState) (found : ℕ × ℕ) →
    earliest_from start (map (head_rank past) lanes) ≡ Some found → Stands past start lanes found
unfolding earliest_from
found_stands past start [] found is = absurd cc
found_stands past start (lane ∷ lanes) found is = either_stands past start lane lanes found (one_of_both (numbered
    start (head_rank past lane)) (earliest_from (suc start) (map (head_rank past) lanes)) found is) (found_stands
    past (suc start) lanes found)
