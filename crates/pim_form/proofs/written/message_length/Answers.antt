use Rattle.std.proofs.Common.{◌≡◌, ◌∙◌, ℕ, ◌+◌, ◌*◌, sym, ap, arith}
use Rattle.pim_form.specs.Units.{units_of, run_entries, run_groups, empty_message_size, empty_set_size, entry_size}
use Rattle.pim_form.proofs.Normal.{groups_some}
use Rattle.pim_form.proofs.Units.{count_groups}
use Rattle.pim_form.proofs.Spelled.{entries_few}
use Rattle.pim_form.proofs.Counted.{few_of_first, one_more_counted, all_counted}
use Rattle.pim_form.proofs.written.message_length.Goals as goal

pub entry_count-entries-requires : goal.entry_count-entries-requires
entry_count-entries-requires g c =
    let few = entries_few g.F.Family.family (units_of c.args.part) c.requires.size in
    omega (arith, few_of_first c.loop-group.group-iterator c.next.new.self c.in-Some.group c.loop-group.entries _ c.in-Some.ensures.steps c.loop-group.invariant few)

pub overflow_add-entries : goal.overflow_add-entries
overflow_add-entries g c =
    let few = entries_few g.F.Family.family (units_of c.args.part) c.requires.size in
    omega (arith, few_of_first c.loop-group.group-iterator c.next.new.self c.in-Some.group c.loop-group.entries _ c.in-Some.ensures.steps c.loop-group.invariant few, c.entry_count-entries.ensures)

pub loop-group-preserved : goal.loop-group-preserved
loop-group-preserved g c = one_more_counted c.loop-group.group-iterator c.next.new.self c.in-Some.group c.loop-group.entries _ _ c.in-Some.ensures.steps c.loop-group.invariant c.entry_count-entries.ensures

pub message_size-requires-clause-groups : goal.message_size-requires-clause-groups
message_size-requires-clause-groups g c =
    let groups = count_groups c.args.part c.requires.normal.ascending (groups_some g.F.Family.family c.args.part c.requires.normal.groups) in
    omega (arith, groups, c.requires.groups, c.count_left-count.ensures)

pub message_size-requires-clause-entries : goal.message_size-requires-clause-entries
message_size-requires-clause-entries g c =
    let few = entries_few g.F.Family.family (units_of c.args.part) c.requires.size in
    omega (arith, few, all_counted c.loop-group.group-iterator c.loop-group.entries _ c.in-None.ensures.steps.0 c.loop-group.invariant)

pub returns : goal.returns
returns g c =
    let family = g.F.Family.family in
    let units = units_of c.args.part in
    let groups : c.count_left-count.result ≡ run_groups units =
    c.count_left-count.ensures ∙ sym (count_groups c.args.part c.requires.normal.ascending (groups_some family c.args.part c.requires.normal.groups)) in
    let entries : c.loop-group.entries ≡ run_entries units = all_counted c.loop-group.group-iterator c.loop-group.entries _ c.in-None.ensures.steps.0 c.loop-group.invariant in
    c.message_size.ensures
    ∙ ap (λ (n : ℕ). empty_message_size family + n * empty_set_size family + c.loop-group.entries * entry_size family) groups
    ∙ ap (λ (n : ℕ). empty_message_size family + run_groups units * empty_set_size family + n * entry_size family) entries
