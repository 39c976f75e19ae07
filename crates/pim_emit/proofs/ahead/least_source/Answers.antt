use Rattle.pim_emit.proofs.Words.{◌≡◌, ◌&&◌, option_map, sym, subst, arith, is_above, IsNextOn, is_source_joined}
use Rattle.pim_emit.proofs.PortsBelow.{least_of_none, least_of_more, least_of_all}
use Rattle.pim_emit.proofs.ahead.least_source.Goals as goal

pub loop-port-init : goal.loop-port-init
loop-port-init g c =
    let bytes_of = g.F.Family.bytes_of in
    least_of_none (λ port source. is_above (option_map bytes_of c.args.bound) source && is_source_joined c.args.ports.now (bytes_of c.args.group) source port)

pub loop-port-preserved : goal.loop-port-preserved
loop-port-preserved g c =
    let bytes_of = g.F.Family.bytes_of in
    least_of_more (λ port source. is_above (option_map bytes_of c.args.bound) source && is_source_joined c.args.ports.now (bytes_of c.args.group) source port)
    c.loop-port.port (option_map bytes_of c.loop-port.least) (option_map bytes_of c.source_of.result) (option_map bytes_of c.lesser-least.result)
    c.loop-port.invariant
    (subst (IsNextOn c.args.ports.now (bytes_of c.args.group) (option_map bytes_of c.args.bound) c.loop-port.port) (sym c.source_of.ensures) c.ahead_on-next.ensures.next)
    c.lesser-least.ensures

pub returns : goal.returns
returns g c =
    let bytes_of = g.F.Family.bytes_of in
    let all : c.loop-port.port ≡ c.args.ports.now.ports = omega (arith, c.port_count-count.ensures, c.loop-port-test.false, c.loop-port.auto.port-end) in
    least_of_all (λ port source. is_above (option_map bytes_of c.args.bound) source && is_source_joined c.args.ports.now (bytes_of c.args.group) source port)
    c.loop-port.port c.args.ports.now.ports (option_map bytes_of c.loop-port.least) all c.loop-port.invariant
