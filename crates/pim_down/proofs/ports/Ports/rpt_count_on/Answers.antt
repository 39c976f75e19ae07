use Rattle.pim_down.proofs.Words.{◌≡◌, ap, sym, ◌∙◌, arith, rpt_count_on, Downstream, records_seen, shown}
use Rattle.pim_down.proofs.OnPort.{count_none, rpts_few, rpts_later}
use Rattle.pim_down.proofs.ports.Ports.rpt_count_on.Goals as goal

pub returns-then-port-self : goal.returns-then-port-self
returns-then-port-self g c =
    let p = c.self.inside in
    let held = shown g.F.Family.bytes_of p.moment p.records.items in
    let none : 0 ≡ rpt_count_on c.args.port held =
    omega (arith, rpts_few c.args.port held, count_none g.F.Family.family p.ports c.args.port held c.if-port-self.true c.self.invariant.0.real) in
    none ∙ ap (λ (s : Downstream). rpt_count_on c.args.port s.records) c.self.view_is

pub returns : goal.returns
returns g c =
    let p = c.self.inside in
    c.rpt_count_on.ensures g.F.Family.bytes_of
    ∙ sym (rpts_later c.args.port p.moment (records_seen g.F.Family.bytes_of p.records.items))
    ∙ ap (λ (s : Downstream). rpt_count_on c.args.port s.records) c.self.view_is
