-- A router whose course was over all canonical messages asks again for what their form asks for.
use Rattle.pim_mirror.proofs.Words.{ℕ, ◌≤◌, List, [], ◌∷◌, sym, subst, arith, Exchange, Delivery, fresh, after_message}
use Rattle.pim_mirror.proofs.Words.{Leaves, DemandedStarsHaveRps, HeardMessagesAreDemandedAgain, RouterLeavesItsPort}
use Rattle.pim_mirror.proofs.Words.{CourseHearsAll, RouterDemandsAgain}
use Rattle.pim_down.specs.declared.machines.step.Step.{Step}
use Rattle.pim_down.specs.declared.machines.step.Step.TheVariants.{Reached}
use Rattle.pim_down.specs.Time.{Downstream, Runs}
use Rattle.pim_down.specs.Laws.{EveryStateHasARun, RunGoesOn, RunHasOneEnd}

module _ (every : EveryStateHasARun) (goes_on : RunGoesOn) (one_end : RunHasOneEnd) where
  -- where a run reached its moment, another one to it does nothing
  stays_there : (moment : ℕ) (from state : Downstream) → Runs moment from Reached state → Runs moment state Reached state
  stays_there moment from state runs =
      let more = every moment state in
      let whole = goes_on moment moment from state more.after more.answer (omega arith) runs more.runs in
      let same = one_end moment from state more.after Reached more.answer runs whole in
      subst (λ (end : Downstream). Runs moment state Reached end) (sym same.1) (subst (λ (answer : Step (List ℕ)). Runs moment state answer more.after) (sym same.0) more.runs)

  left_there : (exchange : Exchange) (ports limit : ℕ) (deliveries : List Delivery) (moment : ℕ) (state : Downstream) → Leaves exchange ports limit deliveries moment state → Runs moment state Reached state
  unfolding Leaves
  left_there exchange ports limit [] moment state leaves = stays_there moment (fresh ports limit) state leaves
  left_there exchange ports limit (delivery ∷ earlier) moment state leaves = stays_there moment (after_message exchange delivery.message leaves.before) state leaves.runs

  pub router_demands_again : CourseHearsAll → RouterLeavesItsPort → DemandedStarsHaveRps → HeardMessagesAreDemandedAgain → RouterDemandsAgain
  router_demands_again course leaves stars demanded family writing sender form messages timing limit last start deliveries moment reported after sound is_writing is are nothing of came final timely few early lasts hears given =
      let have = stars family start.routes writing.upstream sender form sound is in
      let heard = course family writing form messages timing limit last start deliveries moment reported after is_writing is.normal have are nothing of timely few early lasts hears given in
      let left = leaves family writing form messages timing limit start deliveries moment after is_writing is.normal have are nothing of timely few heard.0 in
      let now : moment ≤ moment = omega arith in
      (demanded family start.routes writing sender form messages timing limit deliveries moment moment after.machines after.machines Reached sound is_writing is are came final now timely left.0 (left_there _ 1 limit deliveries moment after.machines left.0)).1
