use Rattle.pim_down.proofs.Words.{ap, sym, ◌∙◌, arith, count_on, Downstream, records_seen, shown}
use Rattle.pim_down.proofs.OnPort.{count_none}
use Rattle.pim_down.proofs.Origin.{count_on_later}
use Rattle.pim_down.proofs.ports.Ports.count_on.Goals as goal

pub returns-then-port-self : goal.returns-then-port-self
returns-then-port-self g c =
    let p = c.self.inside in
    sym (count_none g.F.Family.family p.ports c.args.port (shown g.F.Family.bytes_of p.moment p.records.items) c.if-port-self.true c.self.invariant.0.real)
    ∙ ap (λ (s : Downstream). count_on c.args.port s.records) c.self.view_is

pub count_on-requires : goal.count_on-requires
count_on-requires g c = omega (arith, c.if-port-self.false, c.self.invariant.0.ports)

pub returns : goal.returns
returns g c =
    let p = c.self.inside in
    c.count_on.ensures
    ∙ sym (count_on_later p.moment c.args.port (records_seen g.F.Family.bytes_of p.records.items))
    ∙ ap (λ (s : Downstream). count_on c.args.port s.records) c.self.view_is
