use Rattle.pim_form.proofs.Words.{◌-◌, ◌/◌, arith, IfOk-weaker}
use Rattle.pim_form.proofs.AllPorts.{no_ports, one_port, two_parts}
use Rattle.pim_form.proofs.demand.+form_from.Goals as goal

pub returns-then-count-eq0 : goal.returns-then-count-eq0
returns-then-count-eq0 g t c = no_ports g.F.Family.family c.args.first c.args.count c.args.ports.now c.empty.result c.if-count-eq0.true c.empty.ensures

pub returns-then-count-eq1 : goal.returns-then-count-eq1
returns-then-count-eq1 g t c = IfOk-weaker c.collect.result _ _ (λ form is. one_port g.F.Family.family c.args.first c.args.count c.args.ports.now form c.if-count-eq1.true is) c.collect.ensures

pub returns : goal.returns
returns g t c =
    IfOk-weaker c.either.result _ _ (λ form is.
    two_parts g.F.Family.family c.args.first (c.args.count / 2) (c.args.count - c.args.count / 2) c.args.count c.args.ports.now c.in_ok-one.one c.in_ok-other.other form (omega arith) c.in_ok-one.ensures c.in_ok-other.ensures is) c.either.ensures
