use Rattle.pim_emit.proofs.Words.{◌∙◌, sym, is_starred}
use Rattle.pim_emit.proofs.PortsBelow.{none_at_all, none_more}
use Rattle.pim_emit.proofs.machines.first_starred.Goals as goal

pub loop-port-init : goal.loop-port-init
loop-port-init g c = none_at_all (is_starred c.args.ports.now (g.F.Family.bytes_of c.args.group))

pub loop-port-preserved : goal.loop-port-preserved
loop-port-preserved g c =
    none_more (is_starred c.args.ports.now (g.F.Family.bytes_of c.args.group)) c.loop-port.port c.loop-port.invariant (sym c.is_starred.ensures ∙ c.if-is_starred.false)
