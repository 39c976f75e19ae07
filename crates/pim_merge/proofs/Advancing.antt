-- One turn more of a run.
use Rattle.pim_merge.proofs.Words.{◌≡◌, ◌∙◌, ℕ, zero, suc, List, [], ◌∷◌, ◌++◌, Option, None, Some, Result, Ok, Err, IfErr}
use Rattle.pim_merge.proofs.Words.{get_or, refl, sym, ap, subst, ◌⊎◌, inl, inr, ⊤, CaptureFault, Answer, IsRefusal, Time, Clock}
use Rattle.pim_merge.proofs.Words.{MergeFault, Turn, LaneState, IsComing, lane_at, failures_of, tallies_of, RecordPlace}
use Rattle.pim_merge.proofs.Words.{tallies_with, place_next, Taken, Outcome, IsMergeBy, never, past_at, rank_of, turn, turn_by, turn_ranked, until, takes, fails}
use Rattle.pim_merge.proofs.Words.{ending, after_turn, clock_after, moment_of, event_time, MergeState, GivesTurnBy, IsCause}
use Rattle.pim_merge.proofs.Words.{CountsFailures, KeepsTime, with_fault, KeepsTallies, IsNumbered}
use Rattle.pim_merge.specs.declared.end.End.{End}
use Rattle.pim_merge.specs.Ends.{last_of, clock_of, Takes, AreAll}
use Rattle.pim_merge.proofs.Tallies.{tallies_more}
use Rattle.pim_merge.proofs.Turning.{fails_by_any}
use Rattle.pim_merge.specs.Run.{taken_by, IsBehind, HasTaken, Advances, IsTallied}

-- ---- one turn more

takes_more : (last : Option Time) (clock : Option Clock) (captures : List (List Answer)) (taken : List Taken)
    (clock' : Option Clock) (rest : List (List Answer)) (next : Taken) → Takes last clock captures taken clock' rest →
    turn_by last clock' rest ≡ takes next.capture next.reported →
    next.moment ≡ moment_of (clock_after clock' (event_time next.reported)) →
    Takes last clock captures (taken ++ next ∷ []) (clock_after clock' (event_time next.reported))
    (after_turn next.capture rest)
unfolding Takes
takes_more last clock captures [] clock' rest next (same, all) is now = (
  ap (turn_by last clock) (sym all) ∙ (ap (λ c. turn_by last c rest) (sym same) ∙ is),
  now ∙ ap (λ c. moment_of (clock_after c (event_time next.reported))) same,
  (ap (λ c. clock_after c (event_time next.reported)) same, ap (after_turn next.capture) all),
)
takes_more last clock captures (first ∷ others) clock' rest next (one, at, more) is now = (
  one,
  at,
  takes_more last (clock_after clock (event_time first.reported)) (after_turn first.capture captures) others clock' rest
      next more is now,
)

takes_all : (last : Option Time) (clock : Option Clock) (captures : List (List Answer)) (taken : List Taken)
    (clock' : Option Clock) (rest : List (List Answer)) (fault : Option (ℕ × CaptureFault)) →
    Takes last clock captures taken clock' rest → turn_by last clock' rest ≡ ending fault →
    IsMergeBy last clock captures taken fault
unfolding Takes IsMergeBy
takes_all last clock captures [] clock' rest fault (same, all) is =
    ap (turn_by last clock) (sym all) ∙ (ap (λ c. turn_by last c rest) (sym same) ∙ is)
takes_all last clock captures (first ∷ others) clock' rest fault (one, at, more) is = (
  one,
  at,
  takes_all last (clock_after clock (event_time first.reported)) (after_turn first.capture captures) others clock' rest
      fault more is,
)

-- the clock after one record more
clock_more : (clock : Option Clock) (taken : List Taken) (next : Taken) →
    clock_of clock (taken ++ next ∷ []) ≡ clock_after (clock_of clock taken) (event_time next.reported)
unfolding clock_of
clock_more clock [] next = refl
clock_more clock (first ∷ others) next = clock_more (clock_after clock (event_time first.reported)) others next

-- a fault comes before the end of the run
fails_by : (last : Option Time) (clock : Option Clock) (number : ℕ) (fault : CaptureFault) (outcome : Outcome) →
    outcome ≡ fails number fault → until last clock outcome ≡ fails number fault
fails_by None clock number fault outcome is = is
fails_by (Some last) clock number fault outcome is = ap (until (Some last) clock) is

-- ---- how often a reader has failed

failures_at : (lanes : List LaneState) (i : ℕ) → (lane_at i lanes).failures ≡ get_or (failures_of lanes) i 0
failures_at [] i = refl
failures_at (lane ∷ lanes) zero = refl
failures_at (lane ∷ lanes) (suc i) = failures_at lanes i

same_failures : (one other : List LaneState) (i : ℕ) → failures_of one ≡ failures_of other →
    (lane_at i one).failures ≡ (lane_at i other).failures
same_failures one other i same = failures_at one i ∙ (ap (λ l. get_or l i 0) same ∙ sym (failures_at other i))

-- ---- the next turn

module _ (end : End) (start : MergeState) (taken : List Taken) (merge merge' : MergeState)
    (has : HasTaken end start taken merge) where
  abbrev Coming : ((List (List Answer)) → Type 0) → Type 0
  Coming P = (captures : List (List Answer)) → IsComing merge.lanes captures → P captures

  -- no further one
  no_more : Coming (λ captures. GivesTurnBy (last_of end) merge.clock captures (Ok None) merge') →
      merge'.clock ≡ merge.clock → tallies_of merge'.lanes ≡ tallies_of merge.lanes → Advances end start taken merge' (Ok None)
  no_more tells keeps tallies = (
    λ captures coming.
        let b = has.turns captures coming in
        takes_all (last_of end) start.clock captures taken merge.clock b.rest None b.takes_them
        (tells b.rest b.coming).0,
    keeps ∙ has.clock,
    tallies ∙ has.tallies,
  )

  -- a fault
  stops : (reported : MergeFault) → Coming (λ captures. turn (with_fault reported captures) ≡ fails reported.capture reported.fault) →
      IsCause merge.lanes merge'.lanes reported → tallies_of merge'.lanes ≡ tallies_of merge.lanes →
      IsNumbered (tallies_of merge.lanes) reported → Advances end start taken merge' (Err reported)
  stops reported fault cause tallies numbered = record {
    are = λ captures coming.
        let b = has.turns captures coming in record {
          clock_then = merge.clock;
          rest = b.rest;
          takes_them = b.takes_them;
          is_rest = fault b.rest b.coming;
        };
    cause = by cause;
    tallies = tallies ∙ has.tallies;
    numbered =
        let same = ap (place_next reported.capture) (sym tallies) in
        (numbered.0 ∙ ap (λ (p : RecordPlace). p.file) same, numbered.1 ∙ ap (λ (p : RecordPlace). p.«record») same);
  }
    where
      by : IsCause merge.lanes merge'.lanes reported →
          IsRefusal {A = ⊤} (lane_at reported.capture start.lanes).failures (lane_at reported.capture merge'.lanes).failures
          (Err reported.fault) ⊎ AreAll end start (Some (reported.capture, reported.fault)) taken
      by (inl refused) =
          inl (subst
          (λ n. IsRefusal {A = ⊤} n (lane_at reported.capture merge'.lanes).failures (Err reported.fault))
          (same_failures merge.lanes start.lanes reported.capture has.reads) refused)
      by (inr is) = inr (λ captures coming.
          let b = has.turns captures coming in
          takes_all (last_of end) start.clock captures taken merge.clock b.rest (Some (reported.capture, reported.fault))
          b.takes_them
          (fails_by (last_of end) merge.clock reported.capture reported.fault
          (turn_ranked (rank_of (past_at (last_of end) merge.clock)) b.rest)
          (fails_by_any (rank_of never) (rank_of (past_at (last_of end) merge.clock)) b.rest reported.capture
          reported.fault (ap turn (sym (is b.rest b.coming)) ∙ fault b.rest b.coming))))

  -- one more
  one_more : (next : Turn) →
      Coming (λ captures. GivesTurnBy (last_of end) merge.clock captures (Ok (Some next)) merge') →
      KeepsTime merge.clock (Ok (Some next)) merge' → failures_of merge'.lanes ≡ failures_of merge.lanes →
      KeepsTallies (tallies_of merge.lanes) (Ok (Some next)) merge' → Advances end start taken merge' (Ok (Some next))
  one_more next tells keeps reads tallies = record {
    turns = more;
    first = λ captures coming.
        let b = more captures coming in
        record { clock_then = merge'.clock; rest = b.rest; takes_them = b.takes_them; is_rest = tt };
    clock = keeps.0 ∙ (ap (λ c. clock_after c (event_time this.reported)) has.clock ∙ sym (clock_more start.clock taken this));
    reads = reads ∙ has.reads;
    tallies = tallies ∙ (ap (tallies_with this.capture this.reported) has.tallies ∙ sym (tallies_more (tallies_of start.lanes) taken this));
  }
    where
      this : Taken
      this = taken_by merge' next

      more : (captures : List (List Answer)) → IsComing start.lanes captures →
          IsBehind (last_of end) start.clock captures (taken ++ this ∷ []) merge'
      more captures coming =
          let b = has.turns captures coming in let one = tells b.rest b.coming in record {
            rest = after_turn next.capture b.rest;
            takes_them =
                subst
                (λ c. Takes (last_of end) start.clock captures (taken ++ this ∷ []) c (after_turn next.capture b.rest))
                (sym keeps.0)
                (takes_more (last_of end) start.clock captures taken merge.clock b.rest this b.takes_them one.0
                (keeps.1 ∙ ap moment_of keeps.0));
            coming = one.1;
          }

  pub advances : (last : Option Time) (result : Result (Option Turn) MergeFault) → last ≡ last_of end →
      Coming (λ captures. GivesTurnBy last merge.clock captures result merge') →
      IfErr result (IsCause merge.lanes merge'.lanes) → CountsFailures merge.lanes result merge'.lanes →
      KeepsTime merge.clock result merge' → KeepsTallies (tallies_of merge.lanes) result merge' →
      IfErr result (IsNumbered (tallies_of merge.lanes)) → Advances end start taken merge' result
  advances last result same tells cause reads keeps tallies numbered =
      by result
      (subst (λ (l : Option Time). Coming (λ captures. GivesTurnBy l merge.clock captures result merge')) same tells)
      cause reads keeps tallies numbered
    where
      by : (result : Result (Option Turn) MergeFault) →
          Coming (λ captures. GivesTurnBy (last_of end) merge.clock captures result merge') →
          IfErr result (IsCause merge.lanes merge'.lanes) → CountsFailures merge.lanes result merge'.lanes →
          KeepsTime merge.clock result merge' → KeepsTallies (tallies_of merge.lanes) result merge' →
          IfErr result (IsNumbered (tallies_of merge.lanes)) → Advances end start taken merge' result
      by (Ok None) tells cause reads keeps tallies numbered = no_more tells keeps tallies
      by (Ok (Some next)) tells cause reads keeps tallies numbered = one_more next tells keeps reads tallies
      by (Err reported) tells cause reads keeps tallies numbered = stops reported tells cause tallies numbered

-- the tallies after that turn
pub tallied : (end : End) (start : MergeState) (taken : List Taken) (merge merge' : MergeState) (result : Result (Option Turn) MergeFault) →
    HasTaken end start taken merge → Advances end start taken merge' result → KeepsTallies (tallies_of merge.lanes) result merge' →
    IsTallied end start merge'
tallied end start taken merge merge' (Ok None) has advances keeps =
    record { taken = taken; first = has.first; tallies = keeps ∙ has.tallies }
tallied end start taken merge merge' (Ok (Some next)) has advances keeps =
    record { taken = taken ++ taken_by merge' next ∷ []; first = advances.first; tallies = advances.tallies }
tallied end start taken merge merge' (Err reported) has advances keeps =
    record { taken = taken; first = has.first; tallies = keeps ∙ has.tallies }
