use Rattle.pim_audit.proofs.Words.{◌≡◌, ◌∙◌, ℕ, List, None, ap, sym, subst, fired, AuditState}
use Rattle.pim_audit.specs.Holding.{HoldsOutside, RouterStays}
use Rattle.pim_audit.proofs.Quiet.{router_quiet, asked_quiet, empty_quiet}
use Rattle.pim_audit.proofs.Carrying.{carried, nothing_held}
use Rattle.pim_audit.proofs.passing.pass.Goals as goal
use Rattle.pim_audit.proofs.passing.pass.Goals.{then-is_gone, else-is_gone}

pub returns-in_default-clause-quiet : goal.returns-in_default-clause-quiet
returns-in_default-clause-quiet g c = record {
  of_router = router_quiet c.args.moment c.args.router.now c.pass_router-gone.new.router c.pass_router-gone.ensures.happens;
  of_asked = asked_quiet c.args.moment c.args.tracked.now.audit.asked c.pass_to.new.self.asked c.pass_to.ensures.passes;
}

pub returns-clause-quiet : goal.returns-clause-quiet
returns-clause-quiet g c =
    let asked : fired c.if-is_gone.tracked.audit.asked.records ≡ None = elim c.if-is_gone.branch [
      | then-is_gone w ↦ rw (w.tracked-is, w.forget.ensures.forgets) empty_quiet
      | else-is_gone w ↦ rw (w.tracked-is) (asked_quiet c.in-Some.end c.args.tracked.now.audit.asked c.pass_to-2.new.self.asked c.pass_to-2.ensures.passes)
    ] in
    record {
      of_router = router_quiet c.in-Some.end c.args.router.now c.pass_router-is_gone.new.router c.pass_router-is_gone.ensures.happens;
      of_asked = ap (λ (a : AuditState). fired a.asked.records) c.look.ensures.rest ∙ asked;
    }

pub returns-in_default-clause-holds : goal.returns-in_default-clause-holds
returns-in_default-clause-holds g c =
    let family = g.F.Family.family in
    subst (λ (a : AuditState). HoldsOutside family c.pass_to.new.touched a c.pass_router-gone.new.router) (sym c.pass_to.ensures.rest)
    (carried family c.args.tracked.now.touched c.pass_router-gone.new.touched c.pass_to.new.touched c.args.tracked.now.audit c.pass_to.new.self.asked
    c.args.router.now c.pass_router-gone.new.router c.requires.holds c.pass_router-gone.ensures.grows c.pass_to.ensures.grows
    (subst (λ (u : List ℕ). RouterStays c.pass_router-gone.new.touched u c.args.router.now c.pass_router-gone.new.router) c.upstream-upstream.ensures
    c.pass_router-gone.ensures.stays)
    c.pass_to.ensures.stays)

pub look-requires : goal.look-requires
look-requires g c =
    let family = g.F.Family.family in
    elim c.if-is_gone.branch [
      | then-is_gone w ↦ rw (w.tracked-is) (nothing_held family w.forget.new.touched w.forget.new.self c.pass_router-is_gone.new.router w.forget.ensures.touches)
      | else-is_gone w ↦ rw (w.tracked-is)
          (subst (λ (a : AuditState). HoldsOutside family c.pass_to-2.new.touched a c.pass_router-is_gone.new.router) (sym c.pass_to-2.ensures.rest)
          (carried family c.args.tracked.now.touched c.pass_router-is_gone.new.touched c.pass_to-2.new.touched c.args.tracked.now.audit
          c.pass_to-2.new.self.asked c.args.router.now c.pass_router-is_gone.new.router c.requires.holds c.pass_router-is_gone.ensures.grows
          c.pass_to-2.ensures.grows
          (subst (λ (u : List ℕ). RouterStays c.pass_router-is_gone.new.touched u c.args.router.now c.pass_router-is_gone.new.router) c.upstream-upstream.ensures
          c.pass_router-is_gone.ensures.stays)
          c.pass_to-2.ensures.stays))
    ]
