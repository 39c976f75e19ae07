use Rattle.pim_jp.proofs.Words.{arith, AreBytes, message_of}
use Rattle.pim_jp.proofs.Legal.{legal_body}
use Rattle.pim_jp.proofs.Canonical.{message_in_range}
use Rattle.pim_jp.proofs.view.JpView.read.Goals as goal

pub invariant_of-result : goal.invariant_of-result
invariant_of-result g c =
    let are : AreBytes c.args.body.now = λ i. omega (arith, c.type_inv.body i) in
    let spelled = legal_body g.F.Family.family c.args.body.now are c.in_ok-check_body.ensures.reported in
    (c.in_ok-check_body.ensures.whole, message_in_range g.F.Family.family (message_of g.F.Family.family c.args.body.now) c.args.body.now are spelled)

pub returns-clause-spelled : goal.returns-clause-spelled
returns-clause-spelled g c = legal_body g.F.Family.family c.args.body.now (λ i. omega (arith, c.type_inv.body i)) c.in_ok-check_body.ensures.reported
