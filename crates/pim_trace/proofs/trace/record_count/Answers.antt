use Rattle.std.proofs.Common.{◌≤◌, arith}
use Rattle.pim_trace.proofs.Counts.{from_first, machines_more, few_ports, few_on, none_behind}
use Rattle.pim_trace.proofs.trace.record_count.Goals as goal

pub loop-port-init : goal.loop-port-init
loop-port-init g c = let first = from_first c.args.router.now.machines.records in record { counted = omega (arith, first); few = omega arith }

pub overflow_add-count : goal.overflow_add-count
overflow_add-count g c =
    let ports = few_ports g.F.Family.family c.args.router.now.machines c.ports.result.now c.ports.ensures c.is_sound.ensures in
    let one = few_on g.F.Family.family c.args.router.now.machines c.ports.result.now c.ports.ensures c.is_sound.ensures c.loop-port.port c.count_on-count.result c.ports-in-loop-port.result.now c.ports-in-loop-port.ensures c.count_on-count.ensures in
    omega (arith, c.loop-port-test.true, c.port_count-port-end.ensures, c.is_router.ensures.ports, ports, one, c.loop-port.invariant.few)

pub loop-port-preserved : goal.loop-port-preserved
loop-port-preserved g c =
    let one = few_on g.F.Family.family c.args.router.now.machines c.ports.result.now c.ports.ensures c.is_sound.ensures c.loop-port.port c.count_on-count.result c.ports-in-loop-port.result.now c.ports-in-loop-port.ensures c.count_on-count.ensures in
    record {
      counted = machines_more c.args.router.now.machines.records c.loop-port.port c.loop-port.count c.count_on-count.result
          (rw c.ports-in-loop-port.ensures at c.count_on-count.ensures) c.loop-port.invariant.counted;
      few = omega (arith, one, c.loop-port.invariant.few);
    }

pub returns : goal.returns
returns g c =
    let over : c.args.router.now.machines.ports ≤ c.loop-port.port = omega (arith, c.loop-port-test.false, c.port_count-port-end.ensures, c.is_router.ensures.ports) in
    let none = none_behind g.F.Family.family c.args.router.now.machines c.ports.result.now c.ports.ensures c.is_sound.ensures c.loop-port.port over in
    omega (arith, c.loop-port.invariant.counted, none)
