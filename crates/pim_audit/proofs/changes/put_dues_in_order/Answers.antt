use Rattle.std.proofs.Common.{rules, subst, sym}
use Rattle.std.proofs.lemmas.List.Sorted.{IsPermutation-map}
use Rattle.pim_down.specs.Seen.{event_seen}
use Rattle.pim_audit.specs.Compared.{AreApart}
use Rattle.pim_audit.specs.Order.{EntriesAscend}
use Rattle.pim_audit.specs.Seen.{due_seen}
use Rattle.pim_audit.specs.declared.due.Due.{Due}
use Rattle.pim_audit.proofs.OrderedEntries.{in_order, held_seen, sorts_by}
use Rattle.pim_audit.proofs.changes.put_dues_in_order.Goals as goal

pub returns-clause-order : goal.returns-clause-order
returns-clause-order g c =
    let bytes_of = g.F.Family.bytes_of in
    let seen = λ (due : Due g.row.F-Addr.Denot). event_seen bytes_of due.entry in
    subst EntriesAscend (sym (held_seen bytes_of c.sort_by.new.self.items))
    (in_order seen c.args.dues.now.items c.sort_by.new.self.items
    (subst AreApart (held_seen bytes_of c.args.dues.now.items) c.requires) c.sort_by.ensures.permutation
    (sorts_by seen c.sort_by.new.self.items c.in_ok-sort_by.ensures.sorted (λ a r q k. search rules)))

pub returns-clause-same : goal.returns-clause-same
returns-clause-same g c =
    IsPermutation-map (due_seen g.F.Family.bytes_of) c.args.dues.now.items c.sort_by.new.self.items c.sort_by.ensures.permutation
