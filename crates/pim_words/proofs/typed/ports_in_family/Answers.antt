use Rattle.pim_words.proofs.Words.{sym, ◌∙◌, err_from_is_err_and, is_in, port_seen}
use Rattle.pim_words.proofs.Orders.{accepted}
use Rattle.pim_words.proofs.OneFamily.{all_typed, foreign, one_more}
use Rattle.pim_words.proofs.typed.ports_in_family.Goals as goal

pub returns-in_err-port : goal.returns-in_err-port
returns-in_err-port g c =
    let p = err_from_is_err_and c.from_residual.result c.from_residual.ensures.1 in
    rw (p.1, p.2)
    (foreign (λ port. is_in g.F.Family.family port.address) (port_seen g.F.Family.family g.F.Family.bytes_of) c.args.ports.now c.loop-port.port-index _ c.loop-port-test.true c.loop-port.typed.items c.loop-port.invariant _ c.in_err-port.ensures)

pub loop-port-preserved : goal.loop-port-preserved
loop-port-preserved g c =
    one_more (λ port. is_in g.F.Family.family port.address) (port_seen g.F.Family.family g.F.Family.bytes_of) c.args.ports.now c.loop-port.port-index _ c.loop-port-test.true c.loop-port.typed.items c.loop-port.invariant c.push.new.self.items c.in_ok-port.port
    c.in_ok-port.ensures (accepted c.push.result _ _ _ c.push.ensures.items (sym c.is_err.ensures.value ∙ c.if-is_err.false))

pub returns : goal.returns
returns g c = all_typed (λ port. is_in g.F.Family.family port.address) (port_seen g.F.Family.family g.F.Family.bytes_of) c.args.ports.now c.loop-port.port-index c.loop-port.typed.items c.loop-port-test.false c.loop-port.invariant
