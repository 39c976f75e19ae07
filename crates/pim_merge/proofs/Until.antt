-- The turn of a merge that ends at a time.
use Rattle.pim_merge.proofs.Words.{◌≡◌, ◌∙◌, [], ℕ, List, Option, None, Some, Result, Ok, Err, true, false, get_or, map}
use Rattle.pim_merge.proofs.Words.{refl, sym, ap, cond, AllByRecursion, EventSeen, Answer, Time, Clock, Turn}
use Rattle.pim_merge.proofs.Words.{MergeFault, Outcome, takes, ends, taken, turn_ranked, rank_of, past_at, turn_by, until, is_past, clock_after}
use Rattle.pim_merge.proofs.Words.{event_time, earliest_from, LaneState, IsComing, IsLooked, with_head, time_at}
use Rattle.pim_merge.proofs.Words.{head_time, head_rank, lane_at, no_lane, MergeState, GivesTurn, GivesTurnBy}
use Rattle.pim_merge.proofs.Looking.{one_comes}
use Rattle.pim_merge.proofs.Turning.{told_comes, turns_by_ranks}
use Rattle.pim_merge.proofs.Taking.{found_within, found_head}

pub ends_by : (last : Option Time) (clock : Option Clock) (outcome : Outcome) → outcome ≡ ends → until last clock outcome ≡ ends
ends_by None clock outcome is = is
ends_by (Some last) clock outcome is = ap (until (Some last) clock) is

-- a record whose moment isn't later is taken
pub takes_by : (last : Option Time) (clock : Option Clock) (number : ℕ) (reported : EventSeen) (outcome : Outcome) → outcome ≡ takes number reported → is_past last (clock_after clock (event_time reported)) ≡ false
    → until last clock outcome ≡ takes number reported
takes_by None clock number reported outcome is by = is
takes_by (Some last) clock number reported outcome is by = ap (until (Some last) clock) is ∙ ap (λ b. cond b ends (takes number reported)) by

-- at a record whose moment is later the merge ends
pub past_by : (last : Option Time) (clock : Option Clock) (number : ℕ) (reported : EventSeen) (outcome : Outcome) → outcome ≡ takes number reported → is_past last (clock_after clock (event_time reported)) ≡ true
    → until last clock outcome ≡ ends
past_by None clock number reported outcome is past = absurd cc
past_by (Some last) clock number reported outcome is past = ap (until (Some last) clock) is ∙ ap (λ b. cond b ends (takes number reported)) past

-- without a time
pub without_time : (clock : Option Clock) (captures : List (List Answer)) (r : Result (Option Turn) MergeFault) (new : MergeState) → GivesTurnBy None clock captures r new → GivesTurn captures r new
without_time clock captures (Ok None) new tells = tells
without_time clock captures (Ok (Some next)) new tells = tells
without_time clock captures (Err reported) new tells = tells

-- the head that was found is past the time
pub passes_turn : (last : Option Time) (clock : Option Clock) (lanes : List LaneState) (capture rank : ℕ) →
    Some (capture, rank) ≡ earliest_from 0 (map (head_rank (past_at last clock)) lanes)
    → is_past last (clock_after clock (head_time (lane_at capture lanes))) ≡ true → (captures : List (List Answer)) → AllByRecursion IsLooked lanes → IsComing lanes captures
    → (turn_by last clock captures ≡ ends) × IsComing lanes captures
passes_turn last clock lanes capture rank found past captures looked coming = (
  at (lane_at capture lanes).head refl,
  coming,
)
  where
    at : (head : Option EventSeen) → (lane_at capture lanes).head ≡ head → turn_by last clock captures ≡ ends
    at None is = absurd (found_head (past_at last clock) lanes capture rank found is)
    at (Some reported) is =
        let comes = ap (λ h. with_head h (lane_at capture lanes).behind) (sym is)
        ∙ one_comes lanes captures capture no_lane [] (found_within (past_at last clock) lanes capture rank
        found) coming in
        let taking = turns_by_ranks (past_at last clock) lanes captures (Some (capture, rank)) looked coming found
        ∙ ap (taken capture) (told_comes reported (lane_at capture lanes).behind (get_or captures capture [])
        comes) in
        past_by last clock capture reported (turn_ranked (rank_of (past_at last clock)) captures) taking (ap (λ h.
        is_past last (clock_after clock (time_at h))) (sym is) ∙ past)
