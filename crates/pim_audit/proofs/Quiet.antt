-- After an end nothing is due, so the next end is later.
use Rattle.pim_audit.proofs.Words.{◌≡◌, ◌∙◌, ◌<◌, ◌-◌, ℕ, zero, suc, Bool, true, false, List, [], ◌∷◌, Option, None, Some, refl}
use Rattle.pim_audit.proofs.Words.{sym, ap, subst, arith, false≢true, list_any, is_some, sooner, Record, Firing, Downstream}
use Rattle.pim_audit.proofs.Words.{IsNextDue, fired, first_due, is_due_after, ticks, first_timeout, TheEndedGoAtFirstTimeout}
use Rattle.pim_audit.proofs.Words.{IsRouter, RouterState, FiresThrough, PassesTo, AuditState, HappensTo, IsNextEnd, IsAfter}
use Rattle.pim_audit.proofs.Words.{IsQuiet}
use Rattle.pim_down.specs.declared.machines.step.Step.{Step as Fires}
use Rattle.pim_down.specs.declared.machines.step.Step.TheVariants as fires
use Rattle.pim_router.specs.Time.{Outcome, rests, moves, stops_with, has_ended, turn, turn_of_timers}

is_rest : Outcome → Bool
is_rest rests = true
is_rest (moves after) = false
is_rest (stops_with step after) = false

none_from : {A : Type 0} (o : Option A) → is_some o ≡ false → o ≡ None
none_from None e = refl
none_from (Some x) e = absurd (false≢true (sym e))

-- where a router rests no timer of its machines is due
rests_quiet : (moment : ℕ) (router : RouterState) → turn moment router ≡ rests → fired router.machines.records ≡ None
unfolding turn is_rest
rests_quiet moment router is = by (list_any has_ended router.tables) refl
  where
    timers : (o : Option (Fires (List ℕ) × List (Record (List ℕ)))) → turn_of_timers moment router o ≡ rests → o ≡ None
    timers None e = refl
    timers (Some (fires.Reached, records)) e = absurd (false≢true (ap is_rest e))
    timers (Some (fires.Echo port group what, records)) e = absurd (false≢true (ap is_rest e))

    by : (b : Bool) → list_any has_ended router.tables ≡ b → fired router.machines.records ≡ None
    by true some = absurd (false≢true (ap is_rest (rw some at is)))
    by false none = timers (fired router.machines.records) (rw none at is)

pub router_quiet : (moment : ℕ) (router after : RouterState) → HappensTo moment router after → fired after.machines.records ≡ None
router_quiet moment router after happens = rests_quiet moment after happens.happens.ends

pub asked_quiet : (moment : ℕ) (state after : Downstream) → PassesTo moment state after → fired after.records ≡ None
unfolding FiresThrough
asked_quiet moment state after passes = by passes.firings state passes.through
  where
    by : (firings : List (Firing (List ℕ))) (s : Downstream) → FiresThrough firings moment s after → fired after.records ≡ None
    by [] s fires =
        subst (λ (t : Downstream). fired t.records ≡ None) (sym fires.1)
        (none_from (fired (ticks (moment - s.moment) s).records) (fires.0 (moment - s.moment) (omega arith)))
    by (f ∷ firings) s fires = by firings fires.0 fires.2

pub empty_quiet : fired [] ≡ None
unfolding fired first_due
empty_quiet = refl

-- ---- the next end

due_later : (state : Downstream) (due : Option ℕ) → fired state.records ≡ None → IsNextDue state due → IsAfter state.moment due
unfolding ticks
due_later state None quiet next = tt
due_later state (Some due) quiet next = by (due - state.moment) refl next.1
  where
    by : (n : ℕ) → due - state.moment ≡ n → is_due_after n state ≡ true → state.moment < due
    by zero e is = absurd (false≢true (sym (ap is_some quiet) ∙ is))
    by (suc n) e is = omega (arith, e)

sooner_later : (now : ℕ) (a b : Option ℕ) → IsAfter now a → IsAfter now b → IsAfter now (sooner a b)
sooner_later now None b first second = second
sooner_later now (Some a) None first second = first
sooner_later now (Some a) (Some b) first second = omega (arith, first, second)

timeout_later : TheEndedGoAtFirstTimeout → (router : RouterState) → IsRouter router → (o : Option ℕ) → first_timeout router.tables ≡ o
    → IsAfter router.machines.moment o
timeout_later law router is None e = tt
timeout_later law router is (Some moment) e = (law router moment is e).0

pub end_later : TheEndedGoAtFirstTimeout → (audit : AuditState) (router : RouterState) → IsRouter router
    → audit.asked.moment ≡ router.machines.moment → IsQuiet audit router → (next : Option ℕ) → IsNextEnd audit router next
    → IsAfter router.machines.moment next
end_later law audit router is step quiet next ends =
    subst (IsAfter router.machines.moment) (sym ends.is_next)
    (sooner_later router.machines.moment (sooner ends.of_router (first_timeout router.tables)) ends.of_asked
    (sooner_later router.machines.moment ends.of_router (first_timeout router.tables)
    (due_later router.machines ends.of_router quiet.of_router ends.router_is_due)
    (timeout_later law router is (first_timeout router.tables) refl))
    (subst (λ n. IsAfter n ends.of_asked) step (due_later audit.asked ends.of_asked quiet.of_asked ends.asked_is_due)))
