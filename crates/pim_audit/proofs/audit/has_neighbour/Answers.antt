use Rattle.pim_audit.proofs.Words.{◌∙◌, length, sym, arith, is_some, neighbour_at, table_at}
use Rattle.pim_audit.proofs.Neighbours.{some_at, none_more, none_yet}
use Rattle.pim_audit.proofs.audit.has_neighbour.Goals as goal

pub loop-port-init : goal.loop-port-init
loop-port-init g c = none_yet _

pub returns-then-has_neighbour_on : goal.returns-then-has_neighbour_on
returns-then-has_neighbour_on g c =
    sym (some_at (λ port. is_some (neighbour_at (g.F.Family.bytes_of c.args.address) (table_at port c.args.router.now)))
    (length c.args.router.now.ports) c.loop-port.port (omega (arith, c.loop-port-test.true, c.port_count-port-end.ensures)) (sym c.has_neighbour_on.ensures ∙ c.if-has_neighbour_on.true))

pub loop-port-preserved : goal.loop-port-preserved
loop-port-preserved g c =
    none_more (λ port. is_some (neighbour_at (g.F.Family.bytes_of c.args.address) (table_at port c.args.router.now)))
    c.loop-port.port (sym c.has_neighbour_on.ensures ∙ c.if-has_neighbour_on.false) c.loop-port.invariant
