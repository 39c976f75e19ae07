use Rattle.pim_router.proofs.Words.{◌≤◌, [], ap, arith, Port}
use Rattle.pim_router.proofs.Current.{all_at}
use Rattle.pim_router.proofs.router.Router.delays.Goals as goal

pub invariant_of-result : goal.invariant_of-result
invariant_of-result g c =
    let short = all_at (λ (port : Port). port.propagation ≤ 32767) c.args.self.now.ports c.args.port (record { address = []; propagation = 0; override_ms = 0 }) c.is_router.ensures.delays c.requires in
    let same = ap (λ (port : Port). port.propagation) c.port-propagation.ensures in
    record { fits_15_bits = omega (arith, short, same) }
