use Rattle.pim_emit.proofs.Words.{◌≡◌, ◌∙◌, ◌<◌, length, option_map, sym, subst, arith, get_or_default, least_seen, AreLeastBelow}
use Rattle.pim_emit.proofs.LeastAhead.{least_is_next}
use Rattle.pim_emit.proofs.ahead.least_ahead.Goals as goal

pub loop-port-init : goal.loop-port-init
loop-port-init g c = λ port other below. absurd (omega (arith, below))

pub loop-port-preserved : goal.loop-port-preserved
loop-port-preserved g c =
    let port = c.loop-port.port in
    let nexts = c.args.nexts.now in
    let next = c.index-nexts-port.result in
    let within : port < length nexts = omega (arith, c.requires, c.port_count-count.ensures, c.loop-port-test.true) in
    c.with_port-least.ensures nexts (λ other. get_or_default nexts port other next within ∙ sym c.index-nexts-port.is) c.loop-port.invariant

pub returns : goal.returns
returns g c =
    let least = option_map (least_seen g.F.Family.bytes_of) c.loop-port.least in
    let all : c.loop-port.port ≡ c.args.ports.now.ports = omega (arith, c.port_count-count.ensures, c.loop-port-test.false, c.loop-port.auto.port-end) in
    let places = subst (λ n. AreLeastBelow n c.args.nexts.now least) all c.loop-port.invariant in
    record {
      source = λ group bound are. least_is_next c.args.ports.now group bound c.args.nexts.now are least places;
      places = places;
    }
