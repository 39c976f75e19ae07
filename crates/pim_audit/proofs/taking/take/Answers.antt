use Rattle.pim_audit.proofs.Words.{ℕ, List, sym, subst, AuditState}
use Rattle.pim_audit.specs.Holding.{HoldsOutside, RouterStays}
use Rattle.pim_audit.proofs.Carrying.{carried}
use Rattle.pim_audit.proofs.OneMachine.{grows_not}
use Rattle.pim_audit.proofs.Touching.{none_stirred, on_ok_if}
use Rattle.pim_audit.proofs.taking.take.Goals as goal

pub returns-in-None-clause-holds : goal.returns-in-None-clause-holds
returns-in-None-clause-holds g c =
    carried g.F.Family.family c.args.tracked.now.touched c.take_message.new.touched c.take_message.new.touched c.args.tracked.now.audit
    c.args.tracked.now.audit.asked c.args.router.now c.take_message.new.router c.requires.holds c.take_message.ensures.grows
    (grows_not c.take_message.new.touched)
    (subst (λ (u : List ℕ). RouterStays c.take_message.new.touched u c.args.router.now c.take_message.new.router) c.upstream-upstream.ensures
    c.in_ok-verdict.ensures.stays)
    (none_stirred c.take_message.new.touched c.args.tracked.now.audit.asked)

pub returns-in-Some-heard-clause-holds : goal.returns-in-Some-heard-clause-holds
returns-in-Some-heard-clause-holds g c =
    let family = g.F.Family.family in
    on_ok_if c.hear_or_refuse.result
    (subst (λ (a : AuditState). HoldsOutside family c.hear_or_refuse.new.tracked.touched a c.take_message.new.router) (sym c.hear_or_refuse.ensures.rest)
    (carried family c.args.tracked.now.touched c.take_message.new.touched c.hear_or_refuse.new.tracked.touched c.args.tracked.now.audit
    c.hear_or_refuse.new.tracked.audit.asked c.args.router.now c.take_message.new.router c.requires.holds c.take_message.ensures.grows
    c.hear_or_refuse.ensures.grows
    (subst (λ (u : List ℕ). RouterStays c.take_message.new.touched u c.args.router.now c.take_message.new.router) c.upstream-upstream.ensures
    c.in_ok-verdict.ensures.stays)
    c.hear_or_refuse.ensures.stays))
