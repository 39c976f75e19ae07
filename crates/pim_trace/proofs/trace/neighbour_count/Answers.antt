use Rattle.std.proofs.Common.{◌≡◌, ◌<◌, ◌∙◌, length, sym, arith}
use Rattle.pim_trace.proofs.Counts.{from_none, few_in, neighbours_more}
use Rattle.pim_trace.proofs.trace.neighbour_count.Goals as goal

pub loop-port-init : goal.loop-port-init
loop-port-init g c = record {
  counted = omega arith;
  few = few_in g.F.Family.family c.args.router.now.tables c.args.router.now.machines c.ports.result.now c.ports.ensures c.is_sound.ensures c.is_router.ensures.tables c.is_router.ensures.few;
}

pub overflow_add-count : goal.overflow_add-count
overflow_add-count g c =
    let long : length c.args.router.now.tables ≡ length c.args.router.now.ports = c.is_router.ensures.tables ∙ sym c.is_router.ensures.ports in
    let inside : c.loop-port.port < length c.args.router.now.tables = omega (arith, c.loop-port-test.true, c.port_count-port-end.ensures, long) in
    let more = neighbours_more c.args.router.now.tables c.loop-port.port c.loop-port.count c.neighbour_count-count.result inside c.neighbour_count-count.ensures c.loop-port.invariant.counted in
    omega (arith, more, c.loop-port.invariant.few)

pub loop-port-preserved : goal.loop-port-preserved
loop-port-preserved g c =
    let long : length c.args.router.now.tables ≡ length c.args.router.now.ports = c.is_router.ensures.tables ∙ sym c.is_router.ensures.ports in
    let inside : c.loop-port.port < length c.args.router.now.tables = omega (arith, c.loop-port-test.true, c.port_count-port-end.ensures, long) in
    record {
      counted = neighbours_more c.args.router.now.tables c.loop-port.port c.loop-port.count c.neighbour_count-count.result inside c.neighbour_count-count.ensures c.loop-port.invariant.counted;
      few = c.loop-port.invariant.few;
    }

pub returns : goal.returns
returns g c =
    let long : length c.args.router.now.tables ≡ length c.args.router.now.ports = c.is_router.ensures.tables ∙ sym c.is_router.ensures.ports in
    let over : c.loop-port.port ≡ length c.args.router.now.tables = omega (arith, c.loop-port-test.false, c.loop-port.auto.port-end, c.port_count-port-end.ensures, long) in
    let none = from_none c.args.router.now.tables c.loop-port.port over in
    omega (arith, c.loop-port.invariant.counted, none)
