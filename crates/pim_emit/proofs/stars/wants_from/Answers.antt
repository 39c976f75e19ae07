use Rattle.pim_emit.proofs.Words.{◌≡◌, ◌∙◌, ◌<◌, Bool, true, ℕ, sym, ap, arith, Shared, wants_on, some_below}
use Rattle.pim_emit.proofs.PortsBelow.{none_more, found_below}
use Rattle.pim_emit.proofs.stars.wants_from.Goals as goal

pub loop-port-preserved : goal.loop-port-preserved
loop-port-preserved g c =
    none_more (wants_on c.args.ports.now.records (g.F.Family.bytes_of c.args.source) (g.F.Family.bytes_of c.args.group) Shared)
    c.loop-port.port c.loop-port.invariant (sym c.wants_on.ensures ∙ c.if-wants_on.false)

pub returns-then-wants_on : goal.returns-then-wants_on
returns-then-wants_on g c =
    let test : ℕ → Bool = wants_on c.args.ports.now.records (g.F.Family.bytes_of c.args.source) (g.F.Family.bytes_of c.args.group) Shared in
    let below : c.loop-port.port < c.args.ports.now.ports = omega (arith, c.port_count-count.ensures, c.loop-port-test.true) in
    let yes : test c.loop-port.port ≡ true = cc in
    sym (found_below test c.args.ports.now.ports c.loop-port.port below yes)

pub returns : goal.returns
returns g c =
    let test : ℕ → Bool = wants_on c.args.ports.now.records (g.F.Family.bytes_of c.args.source) (g.F.Family.bytes_of c.args.group) Shared in
    let all : c.args.ports.now.ports ≡ c.loop-port.port =
    omega (arith, c.port_count-count.ensures, c.loop-port-test.false, c.loop-port.auto.port-end, c.requires.within) in
    sym (ap (λ n. some_below n test) all ∙ c.loop-port.invariant)
