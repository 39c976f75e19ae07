-- Time that passes from end to end.
use Rattle.pim_audit.proofs.Words.{◌≡◌, ◌∙◌, ◌<◌, ◌≤◌, ◌*◌, ◌+◌, ◌-◌, ℕ, List, [], ◌∷◌, ◌++◌, Some, max, sym, ap, arith, append-nil}
use Rattle.pim_audit.proofs.Words.{append_assoc, AddressFamily, TheEndedGoAtFirstTimeout, IsRouter, RouterState, Passed}
use Rattle.pim_audit.proofs.Words.{AuditState, IsQuiet}
use Rattle.pim_audit.specs.declared.passing.Ended.{Ended as EndedOf}
use Rattle.pim_audit.specs.declared.passing.Passed.TheVariants.{Reached, Ended}
use Rattle.pim_audit.specs.Steps.{PassesStep, PassesThrough, PassesAll, ReachesBy}
use Rattle.pim_audit.proofs.Quiet.{end_later}

-- the time left to a moment, twice, and one more where a step is to come
abbrev pub time_left : {A : Type 0} → ℕ → Passed A → RouterState → ℕ
time_left moment Reached router = 2 * (moment - router.machines.moment)
time_left moment (Ended ended) router = 2 * (moment - router.machines.moment) + 1

module _ {A : Type 0} (family : AddressFamily) (bytes_of : A → List ℕ) (moment : ℕ) where
  module _ (before : List (EndedOf A)) (start : AuditState) (began : RouterState) where
    -- what a step leaves to do: nothing, or steps that lead from it to the moment
    abbrev pub Leads : List (EndedOf A) → Passed A → AuditState → RouterState → Type 0
    Leads so_far Reached audit router = PassesAll family bytes_of moment before start began so_far audit router
    Leads so_far (Ended ended) audit router =
        (others all : List (EndedOf A)) (after : AuditState) (router' : RouterState) → all ≡ so_far ++ ended ∷ others
        → PassesThrough family bytes_of moment others audit router after router'
        → PassesAll family bytes_of moment before start began all after router'

    pub first_leads : (passed : Passed A) (audit : AuditState) (router : RouterState)
        → PassesStep family bytes_of moment start began passed audit router → Leads before passed audit router
    unfolding PassesThrough
    first_leads Reached audit router has = record { ends = []; added = sym (append-nil before); through = has }
    first_leads (Ended ended) audit router has = λ others all after router' is through.
        record { ends = ended ∷ others; added = is; through = (audit, router, has, through) }

    pub next_leads : (so_far so_far' : List (EndedOf A)) (ended : EndedOf A) (passed : Passed A) (audit : AuditState) (router : RouterState)
        (after : AuditState) (router' : RouterState) → Leads so_far (Ended ended) audit router → so_far' ≡ so_far ++ ended ∷ []
        → PassesStep family bytes_of moment audit router passed after router' → Leads so_far' passed after router'
    unfolding PassesThrough
    next_leads so_far so_far' ended Reached audit router after router' leads is has = leads [] so_far' after router' is has
    next_leads so_far so_far' ended (Ended next) audit router after router' leads is has = λ others all last router'' all_is through.
        leads (next ∷ others) all last router''
        (all_is ∙ ap (λ (l : List (EndedOf A)). l ++ next ∷ others) is ∙ append_assoc so_far (ended ∷ []) (next ∷ others))
        (after, router', has, through)

  -- after an end the next one is later
  pub step_smaller : TheEndedGoAtFirstTimeout → (ended : EndedOf A) (passed : Passed A) (audit : AuditState) (router : RouterState)
      (after : AuditState) (router' : RouterState) → IsRouter router → audit.asked.moment ≡ router.machines.moment
      → IsQuiet audit router → router.machines.moment ≤ router'.machines.moment
      → PassesStep family bytes_of moment audit router passed after router'
      → time_left moment passed router' < time_left moment (Ended ended) router
  step_smaller law ended Reached audit router after router' is step quiet later has = omega (arith, later)
  step_smaller law ended (Ended next) audit router after router' is step quiet later has =
      let ahead : router.machines.moment < next.moment = end_later law audit router is step quiet (Some next.moment) has.is_next in
      omega (arith, ahead, has.within, has.reached)

  -- two steps reach the moment where the second one does
  pub reaches_more : (passed : Passed A) (start router router' : RouterState) → start.machines.moment ≤ router.machines.moment
      → router.machines.moment ≤ max start.machines.moment moment → ReachesBy moment router router' passed → ReachesBy moment start router' passed
  reaches_more Reached start router router' later by reached = omega (arith, later, by, reached)
  reaches_more (Ended ended) start router router' later by reached = omega (arith, later, by, reached)
