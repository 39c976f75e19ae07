use Rattle.std.proofs.Common.{rules}
use Rattle.std.proofs.lemmas.List.Sorted.{IsPermutation-map}
use Rattle.pim_down.specs.Seen.{event_seen}
use Rattle.pim_audit.proofs.OrderedEntries.{in_order, sorts_by}
use Rattle.pim_audit.proofs.changes.put_in_order.Goals as goal

pub returns-clause-order : goal.returns-clause-order
returns-clause-order g c =
    let seen = event_seen g.F.Family.bytes_of in
    in_order seen c.args.entries.now.items c.sort_by.new.self.items c.requires c.sort_by.ensures.permutation
    (sorts_by seen c.sort_by.new.self.items c.in_ok-sort_by.ensures.sorted (λ a r q k. search rules))

pub returns-clause-same : goal.returns-clause-same
returns-clause-same g c =
    IsPermutation-map (event_seen g.F.Family.bytes_of) c.args.entries.now.items c.sort_by.new.self.items c.sort_by.ensures.permutation
