use Rattle.std.proofs.Common.{Some, sym, refl, true}
use Rattle.pim_audit.specs.Keyed.{key_cmp}
use Rattle.pim_audit.proofs.KeyOrder.{key_total}
use Rattle.pim_audit.proofs.Waits.{removes}
use Rattle.pim_audit.proofs.due_map.DueMap.report.Goals as goal
use Rattle.pim_audit.specs.declared.due.Due.{Due}

pub invariant_of-self-clause-waits : goal.invariant_of-self-clause-waits
invariant_of-self-clause-waits g c =
    let after : Due g.row.A.Denot = record { entry = c.in-Some.due.now.entry; since = c.in-Some.due.now.since; is_reported = true } in
    removes (key_cmp g.A.Ord.cmp) (key_total g.met.A.Ord.total) c.args.self.now.waiting.keys c.remove.new.self.keys
    c.args.self.now.entries.entries (c.get_mut.follows.lender after).entries c.args.key c.args.self.now.waits c.in_ok-held.held (Some after)
    (sym c.in_ok-held.ensures) (λ s. refl) c.remove.ensures.updates.0
    ((c.get_mut.follows.holds after).3 (rw (← c.in_ok-held.ensures) refl)).0
