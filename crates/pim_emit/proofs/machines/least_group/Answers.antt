use Rattle.pim_emit.proofs.Words.{◌≡◌, ◌&&◌, option_map, arith, is_above, has_group}
use Rattle.pim_emit.proofs.NextGroups.{group_is_next}
use Rattle.pim_emit.proofs.PortsBelow.{least_of_none, least_of_more, least_of_all}
use Rattle.pim_emit.proofs.machines.least_group.Goals as goal

pub loop-port-init : goal.loop-port-init
loop-port-init g c =
    let bytes_of = g.F.Family.bytes_of in
    least_of_none (λ port group. is_above (option_map bytes_of c.args.bound) group && has_group c.args.ports.now group port)

pub loop-port-preserved : goal.loop-port-preserved
loop-port-preserved g c =
    let bytes_of = g.F.Family.bytes_of in
    least_of_more (λ port group. is_above (option_map bytes_of c.args.bound) group && has_group c.args.ports.now group port)
    c.loop-port.port (option_map bytes_of c.loop-port.least) (option_map bytes_of c.group_after.result) (option_map bytes_of c.lesser-least.result)
    c.loop-port.invariant
    (rw c.group_after.ensures (group_is_next c.args.ports.now c.is_sound.ensures.ascending c.loop-port.port (option_map bytes_of c.args.bound)))
    c.lesser-least.ensures

pub returns : goal.returns
returns g c =
    let bytes_of = g.F.Family.bytes_of in
    let all : c.loop-port.port ≡ c.args.ports.now.ports = omega (arith, c.port_count-count.ensures, c.loop-port-test.false, c.loop-port.auto.port-end) in
    least_of_all (λ port group. is_above (option_map bytes_of c.args.bound) group && has_group c.args.ports.now group port)
    c.loop-port.port c.args.ports.now.ports (option_map bytes_of c.loop-port.least) all c.loop-port.invariant
