use Rattle.std.proofs.Common.{None, sym, refl}
use Rattle.pim_audit.specs.Keyed.{key_cmp}
use Rattle.pim_audit.proofs.KeyOrder.{key_total}
use Rattle.pim_audit.proofs.Waits.{removes}
use Rattle.pim_audit.proofs.due_map.DueMap.remove.Goals as goal

pub invariant_of-self-clause-waits : goal.invariant_of-self-clause-waits
invariant_of-self-clause-waits g c = removes (key_cmp g.A.Ord.cmp) (key_total g.met.A.Ord.total) _ _ _ _ c.args.key
    c.args.self.now.waits c.in-Some.held None
    (sym c.in-Some.ensures.value) (λ s. refl) c.remove-in-Some.ensures.updates.0 c.remove.ensures.updates.0
