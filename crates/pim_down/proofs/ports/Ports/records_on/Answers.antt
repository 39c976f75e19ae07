use Rattle.pim_down.proofs.Words.{ap, sym, ◌∙◌, arith, filter, is_on, Downstream, records_seen, shown}
use Rattle.pim_down.proofs.Kept.{ascending_back}
use Rattle.pim_down.proofs.OnPort.{shown_later, none_on_port}
use Rattle.pim_down.proofs.ports.Ports.records_on.Goals as goal

pub returns-then-port-self : goal.returns-then-port-self
returns-then-port-self g c =
    let p = c.self.inside in
    let bytes_of = g.F.Family.bytes_of in
    c.new.ensures ∙ ap (shown bytes_of p.moment) c.walk.ensures
    ∙ sym (none_on_port g.F.Family.family p.ports c.args.port (shown bytes_of p.moment p.records.items) c.if-port-self.true c.self.invariant.0.real)
    ∙ ap (λ (s : Downstream). filter (is_on c.args.port) s.records) c.self.view_is

pub on_port-requires-clause-ascending : goal.on_port-requires-clause-ascending
on_port-requires-clause-ascending g c = ascending_back c.self.inside.moment (records_seen g.F.Family.bytes_of c.self.inside.records.items) c.self.invariant.0.ascending

pub on_port-requires-clause-port : goal.on_port-requires-clause-port
on_port-requires-clause-port g c = omega (arith, c.if-port-self.false, c.self.invariant.0.ports)

pub returns : goal.returns
returns g c =
    let p = c.self.inside in
    let bytes_of = g.F.Family.bytes_of in
    c.new-2.ensures ∙ shown_later bytes_of c.args.port (records_seen bytes_of p.records.items) c.on_port.result c.on_port.ensures p.moment c.args.self.now.records (ap (λ (s : Downstream). s.records) (sym c.self.view_is))
