use Rattle.pim_form.proofs.Words.{◌≡◌, Bool, true, ℕ, sym, ◌<◌, arith, wants_on}
use Rattle.pim_form.proofs.Below.{found_below}
use Rattle.pim_form.proofs.wanting.wants.Goals as goal

pub returns-then-wants_on : goal.returns-then-wants_on
returns-then-wants_on g c =
    let test : ℕ → Bool = wants_on c.args.ports.now.records (g.F.Family.bytes_of c.args.source) (g.F.Family.bytes_of c.args.group) c.args.tree in
    let below : c.loop-port.port < c.args.ports.now.ports = omega (arith, c.port_count-count.ensures, c.loop-port-test.true) in
    let yes : test c.loop-port.port ≡ true = cc in
    sym (found_below test c.args.ports.now.ports c.loop-port.port below yes)
