-- Reading the heads of captures, one after the other.
use Rattle.pim_merge.proofs.Words.{◌≡◌, ◌<◌, ◌≤◌, ◌+◌, ◌∙◌, ◌∷◌, ◌++◌, [], ℕ, zero, suc, List, None, Some, length}
use Rattle.pim_merge.proofs.Words.{get_or, set, take, drop, map, refl, sym, ap, subst, arith, inl, inr, ◌⊎◌, ⊎_elim}
use Rattle.pim_merge.proofs.Words.{add-zero, AllByRecursion, cases_eq, Answer, LaneState, coming_on, IsComing, IsLooked}
use Rattle.pim_merge.proofs.Words.{lane_left, records_to_come, failures_of, lane_at, no_lane, KeepsRoom, KeepRooms}
use Rattle.pim_merge.proofs.Words.{HasFailed, FailsAt, tallies_of, no_tally, StillComes}
use Rattle.std.proofs.lemmas.List.{map-set, set-get_or, get_or-map, take_more_set, drop-set-lt, drop-drop, get_or-drop, get_or_default, get_or-set_same, get_or-set_other}
use Rattle.pim_merge.proofs.Needing.{within_same}

-- ---- lists of captures

-- one capture of those that come
pub one_comes : (lanes : List LaneState) (captures : List (List Answer)) (i : ℕ) (d : LaneState) (e : List Answer) → i < length lanes → IsComing lanes captures
    → coming_on (get_or lanes i d) ≡ Some (get_or captures i e)
one_comes [] captures i d e below coming = absurd (omega (arith, below))
one_comes (lane ∷ lanes) [] i d e below coming = absurd cc
one_comes (lane ∷ lanes) (capture ∷ captures) zero d e below coming = ap (λ l. get_or l 0 None) coming
one_comes (lane ∷ lanes) (capture ∷ captures) (suc i) d e below coming = one_comes lanes captures i d e (omega (arith, below)) (ap (drop 1) coming)

-- another capture comes in its place
pub set_comes : (lanes : List LaneState) (captures : List (List Answer)) (i : ℕ) (lane : LaneState) (capture : List Answer) → IsComing lanes captures → coming_on lane ≡ Some capture
    → IsComing (set lanes i lane) (set captures i capture)
set_comes lanes captures i lane capture coming comes =
    map-set coming_on lanes i lane ∙ (ap (λ l. set l i (coming_on lane)) coming ∙ (ap (set (map Some captures) i) comes ∙ sym (map-set Some captures i capture)))

-- the same capture comes in its place
pub same_comes : (lanes : List LaneState) (captures : List (List Answer)) (i : ℕ) (lane d : LaneState) → i < length lanes → IsComing lanes captures → StillComes (get_or lanes i d) lane
    → IsComing (set lanes i lane) captures
same_comes lanes captures i lane d below coming still =
    subst (λ l. IsComing (set lanes i lane) l) (set-get_or captures i []) (set_comes lanes captures i lane (get_or captures i []) coming (still _ (one_comes lanes captures i d [] below coming)))

-- ---- how many records are to come

pub total_with : (lanes : List LaneState) (i : ℕ) (lane d : LaneState) → i < length lanes → records_to_come (set lanes i lane) + lane_left (get_or lanes i d) ≡ records_to_come lanes + lane_left lane
unfolding records_to_come
total_with [] i lane d below = absurd (omega (arith, below))
total_with (first ∷ lanes) zero lane d below = omega arith
total_with (first ∷ lanes) (suc i) lane d below = let more = total_with lanes i lane d (omega (arith, below)) in omega (arith, more)

-- ---- how much room the buffers have

-- two lists that are the same from a place on have the same there
at_front : {A : Type 0} (xs ys : List A) (n : ℕ) (d : A) → drop n xs ≡ drop n ys → get_or xs n d ≡ get_or ys n d
at_front xs ys n d same =
    ap (λ k. get_or xs k d) (sym (add-zero n)) ∙ (sym (get_or-drop n xs 0 d) ∙ (ap (λ l. get_or l 0 d) same ∙ (get_or-drop n ys 0 d ∙ ap (λ k. get_or ys k d) (add-zero n))))

pub as_before : (number : ℕ) (old now : List LaneState) (d : LaneState) → number < length now → drop number now ≡ drop number old → get_or now number d ≡ lane_at number old
as_before number old now d below rest = get_or_default now number d no_lane below ∙ at_front now old number no_lane rest

-- another capture with room comes in its place
pub set_keeps : (old now : List LaneState) (number : ℕ) (lane : LaneState) → number < length now → KeepRooms old now → KeepsRoom (lane_at number old) lane → KeepRooms old (set now number lane)
set_keeps old now number lane below rooms kept n = ⊎_elim
    (λ e. subst (λ j. KeepsRoom (lane_at j old) (lane_at j (set now number lane))) (sym e) (subst (KeepsRoom (lane_at number old)) (sym (get_or-set_same now number lane no_lane below)) kept))
    (λ other. subst (KeepsRoom (lane_at n old)) (sym (get_or-set_other now number n lane no_lane other)) (rooms n))
    (cases_eq n number)

-- another capture with the same tally comes in its place
pub same_tallies : (now : List LaneState) (number : ℕ) (lane d : LaneState) → number < length now → lane.tally ≡ (get_or now number d).tally
    → tallies_of (set now number lane) ≡ tallies_of now
same_tallies now number lane d below same =
    map-set (λ (l : LaneState). l.tally) now number lane ∙ (ap (set (tallies_of now) number) (same ∙ sym (get_or-map (λ (l : LaneState). l.tally) now number d no_tally below))
    ∙ set-get_or (tallies_of now) number no_tally)

-- ---- all up to one

pub all_push : {A : Type 0} (P : A → Type 0) (xs : List A) (y : A) → AllByRecursion P xs → P y → AllByRecursion P (xs ++ y ∷ [])
all_push P [] y all holds = (holds, tt)
all_push P (x ∷ xs) y all holds = (all.0, all_push P xs y all.1 holds)

-- The heads of the captures before this one were read, and nothing else was done.
pub record IsLookedUpTo (number : ℕ) (old now : List LaneState) : Type 0 where
  pub coming : (captures : List (List Answer)) → IsComing old captures → IsComing now captures
  pub looked : AllByRecursion IsLooked (take number now)
  pub rest : drop number now ≡ drop number old
  pub lighter : records_to_come now ≤ records_to_come old
  pub reads : failures_of now ≡ failures_of old
  pub rooms : KeepRooms old now
  pub early : (n : ℕ) → FailsAt n old → number ≤ n
  pub tallies : tallies_of now ≡ tallies_of old

pub begin_looking : (lanes : List LaneState) → IsLookedUpTo 0 lanes lanes
begin_looking lanes = record { coming = λ captures coming. coming; looked = tt; rest = refl; lighter = omega arith; reads = refl; rooms = λ n. (inl refl, within_same (lane_at n lanes).store.piece_room (lane_at n lanes).store.needs); early = λ n fails. omega arith; tallies = refl }

pub look_more : (number : ℕ) (old now : List LaneState) (lane d : LaneState) → number < length now → IsLookedUpTo number old now
    → StillComes (get_or now number d) lane → IsLooked lane → lane_left lane ≤ lane_left (get_or now number d) → lane.failures ≡ (get_or now number d).failures
    → KeepsRoom (get_or now number d) lane → (HasFailed (get_or now number d) → ⊥) → lane.tally ≡ (get_or now number d).tally → IsLookedUpTo (number + 1) old (set now number lane)
look_more number old now lane d below w still looked lighter reads kept fine tally = record {
  coming = λ captures coming. same_comes now captures number lane d below (w.coming captures coming) still;
  looked = rw (take_more_set now number lane below) (all_push IsLooked (take number now) lane w.looked looked);
  rest = rest_more;
  lighter = let total = total_with now number lane d below in omega (arith, total, w.lighter, lighter);
  reads = map-set (λ (l : LaneState). l.failures) now number lane ∙ (ap (set (failures_of now) number) reads ∙ (same_failures ∙ w.reads));
  rooms = set_keeps old now number lane below w.rooms (subst (λ (l : LaneState). KeepsRoom l lane) (as_before number old now d below w.rest) kept);
  early = λ n fails. later n fails (cases_eq n number);
  tallies = same_tallies now number lane d below tally ∙ w.tallies;
}
  where
    later : (n : ℕ) → FailsAt n old → (n ≡ number) ⊎ (n ≡ number → ⊥) → number + 1 ≤ n
    later n fails (inl e) = absurd (fine (subst HasFailed (sym (as_before number old now d below w.rest ∙ ap (λ k. lane_at k old) (sym e))) fails.1))
    later n fails (inr other) = let early = w.early n fails in omega (arith, early, other)

    rest_more : drop (number + 1) (set now number lane) ≡ drop (number + 1) old
    rest_more = drop-set-lt (number + 1) now number lane (omega arith) ∙ sym (drop-drop 1 number now) ∙ (ap (drop 1) w.rest ∙ drop-drop 1 number old)

    same_failures : set (failures_of now) number (get_or now number d).failures ≡ failures_of now
    same_failures = ap (set (failures_of now) number) (sym (get_or-map (λ (l : LaneState). l.failures) now number d 0 below)) ∙ set-get_or (failures_of now) number 0
