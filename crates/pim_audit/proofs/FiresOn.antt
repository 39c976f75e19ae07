-- Timers that fire one after the other.
use Rattle.pim_audit.proofs.Words.{◌≡◌, ◌∙◌, ◌<◌, ◌-◌, ℕ, zero, suc, List, [], ◌∷◌, Option, None, Some, map, refl, sym, ap, subst}
use Rattle.pim_audit.proofs.Words.{false≢true, is_some, option_map, Firing, Record, weight, Downstream, first_due, record_after}
use Rattle.pim_audit.proofs.Words.{tick, ticks, FiresThrough, PassesTo}
use Rattle.pim_down.specs.Firing.{FiresTo, firing, fired_in, firing_in, step_of}
use Rattle.pim_down.specs.Laws.{TimersRunOut, FiringSaysMore, said_of}

module _ (timers : TimersRunOut) (says : FiringSaysMore) where
  same_weight : (count : ℕ) (state : Downstream) → weight (ticks count state).records ≡ weight state.records
  unfolding ticks
  same_weight zero state = refl
  same_weight (suc count) state = same_weight count (tick state) ∙ timers.1 state.records

  one_lighter : (state after : Downstream) (f : Firing (List ℕ)) → firing_in state ≡ Some (f, after)
      → weight after.records < weight state.records
  one_lighter state after f is = by (firing state.records) refl is
    where
      by : (o : Option (Firing (List ℕ) × List (Record (List ℕ)))) → firing state.records ≡ o → fired_in state o ≡ Some (f, after)
          → weight after.records < weight state.records
      by None was e = absurd (false≢true (ap is_some e))
      by (Some (g, records)) was e =
          let same : records ≡ after.records = ap (λ (p : Option (Firing (List ℕ) × Downstream)). records_of p) e in
          subst (λ (rs : List (Record (List ℕ))). weight rs < weight state.records) same
          (timers.0 state.records records (step_of g) (says state.records ∙ ap (option_map said_of) was))
        where
          records_of : Option (Firing (List ℕ) × Downstream) → List (Record (List ℕ))
          records_of None = records
          records_of (Some (h, s)) = s.records

  -- each timer that fires makes the records lighter
  pub lighter : (moment : ℕ) (state after : Downstream) (f : Firing (List ℕ)) → FiresTo moment state (Some f) after
      → weight after.records < weight state.records
  lighter moment state after f fires =
      subst (λ n. weight after.records < n) (same_weight (after.moment - state.moment) state)
      (one_lighter (ticks (after.moment - state.moment) state) after f fires.2)

-- a timer fires, and then others
pub fires_first : (moment : ℕ) (state middle after : Downstream) (f : Firing (List ℕ)) → FiresTo moment state (Some f) middle
    → PassesTo moment middle after → PassesTo moment state after
unfolding FiresThrough
fires_first moment state middle after f fires passes =
    record { firings = f ∷ passes.firings; through = (middle, fires, passes.through) }

-- no timer fires
pub none_fires : (moment : ℕ) (state after : Downstream) → FiresTo moment state None after → PassesTo moment state after
unfolding FiresThrough
none_fires moment state after fires = record { firings = []; through = fires }

no_records : (count : ℕ) (state : Downstream) → state.records ≡ [] → (ticks count state).records ≡ []
unfolding ticks
no_records zero state none = none
no_records (suc count) state none = no_records count (tick state) (ap (map (record_after 1)) none)

-- where nothing is held no timer fires
pub stays_empty : (moment : ℕ) (state after : Downstream) → state.records ≡ [] → PassesTo moment state after → after.records ≡ []
unfolding FiresThrough firing first_due
stays_empty moment state after none passes = by passes.firings passes.through
  where
    nothing : (s : Downstream) → s.records ≡ [] → firing_in s ≡ None
    nothing s e = ap (λ (rs : List (Record (List ℕ))). fired_in s (firing rs)) e

    by : (firings : List (Firing (List ℕ))) → FiresThrough firings moment state after → after.records ≡ []
    by [] fires = ap (λ (s : Downstream). s.records) fires.1 ∙ no_records (moment - state.moment) state none
    by (f ∷ firings) fires =
        absurd (false≢true (ap is_some (sym (nothing (ticks (fires.0.moment - state.moment) state) (no_records (fires.0.moment - state.moment) state none)) ∙ fires.1.2)))
