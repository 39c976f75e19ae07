-- The tallies of captures.
use Rattle.pim_merge.proofs.Words.{◌≡◌, ◌∙◌, ℕ, zero, suc, List, [], ◌∷◌, ◌++◌, set, Some, refl, ap, map-set, EventSeen}
use Rattle.pim_merge.proofs.Words.{Taken, LaneState, lane_at, tallies_of, without_head, tally_at, tally_after}
use Rattle.pim_merge.proofs.Words.{tally_taken, tallies_with, tallies_after}
use Rattle.pim_merge.specs.declared.tally.Tally.{Tally}

pub tally_there : (lanes : List LaneState) (number : ℕ) → (lane_at number lanes).tally ≡ tally_at number (tallies_of lanes)
tally_there [] number = refl
tally_there (lane ∷ lanes) zero = refl
tally_there (lane ∷ lanes) (suc number) = tally_there lanes number

-- a head was taken
pub tallies_moved : (lanes : List LaneState) (capture : ℕ) (reported : EventSeen) → (lane_at capture lanes).head ≡ Some reported
    → tallies_of (set lanes capture (without_head (lane_at capture lanes))) ≡ tallies_with capture reported (tallies_of lanes)
tallies_moved lanes capture reported head =
    map-set (λ (l : LaneState). l.tally) lanes capture (without_head (lane_at capture lanes))
    ∙ ap (set (tallies_of lanes) capture) (ap (tally_taken (lane_at capture lanes).tally) head ∙ ap (λ (t : Tally). tally_after t reported) (tally_there lanes capture))

-- one record more
pub tallies_more : (tallies : List Tally) (taken : List Taken) (next : Taken) → tallies_after tallies (taken ++ next ∷ [])
    ≡ tallies_with next.capture next.reported (tallies_after tallies taken)
unfolding tallies_after
tallies_more tallies [] next = refl
tallies_more tallies (first ∷ others) next = tallies_more (tallies_with first.capture first.reported tallies) others next
