use Rattle.std.proofs.Common.{filter, rules}
use Rattle.std.proofs.lemmas.List.Sorted.{IsPermutation-map, IsPermutation-trans}
use Rattle.pim_audit.proofs.Lateness.{entry_of, filter_up, sorted_late}
use Rattle.pim_audit.proofs.OrderedEntries.{sorts_by}
use Rattle.pim_audit.specs.Look.{becomes_late}
use Rattle.pim_audit.specs.Seen.{due_seen}
use Rattle.pim_audit.proofs.look.take_late.Goals as goal

pub returns-clause-late : goal.returns-clause-late
returns-clause-late g c =
    let bytes_of = g.F.Family.bytes_of in
    let late = becomes_late c.args.moment c.args.grace in
    sorted_late bytes_of c.sort_by.new.self.items (filter late c.args.dues.now)
    (IsPermutation-trans _ _ _ c.in_ok-late.ensures.late (IsPermutation-map (due_seen bytes_of) _ _ c.sort_by.ensures.permutation))
    (sorts_by (entry_of bytes_of) _ c.in_ok-sort_by.ensures.sorted (λ a r q k. search rules))
    (filter_up late c.args.dues.now c.is_sound.ensures)
