use Rattle.pim_audit.specs.Keyed.{key_cmp}
use Rattle.pim_audit.proofs.KeyOrder.{key_total}
use Rattle.pim_audit.proofs.Waits.{adds, restored}
use Rattle.pim_audit.proofs.due_map.DueMap.add.Goals as goal

pub invariant_of-self-in-Ok-clause-waits : goal.invariant_of-self-in-Ok-clause-waits
invariant_of-self-in-Ok-clause-waits g c = adds (key_cmp g.A.Ord.cmp) (key_total g.met.A.Ord.total)
    c.args.self.now.waiting.keys c.insert.new.self.keys c.args.self.now.entries.entries c.insert-2.new.self.entries
    c.args.key c.args.self.now.waits c.args.due c.requires.absent c.requires.waits
    c.in_ok-insert.ensures.updates.0 c.in-Ok.ensures.updates.0

pub invariant_of-self-in_default-clause-waits : goal.invariant_of-self-in_default-clause-waits
invariant_of-self-in_default-clause-waits g c = restored (key_cmp g.A.Ord.cmp) (key_total g.met.A.Ord.total)
    c.args.self.now.waiting.keys c.insert.new.self.keys c.remove.new.self.keys
    c.args.self.now.entries.entries c.insert-2.new.self.entries c.args.key c.args.due.since
    c.args.self.now.waits c.requires.absent c.in_default.ensures.err
    c.in_ok-insert.ensures.updates.0 c.remove.ensures.updates.0
