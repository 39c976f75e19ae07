use Rattle.std.proofs.Common.{◌∙◌, ◌++◌, false, true, ap, map}
use Rattle.pim_down.specs.Seen.{event_seen, what_seen}
use Rattle.pim_audit.specs.Compared.{gone_at, gone_if, held_at, new_at, new_if}
use Rattle.pim_audit.specs.Entries.{entry}
use Rattle.pim_audit.specs.Seen.{dues_seen}
use Rattle.pim_audit.proofs.Comparing.{added_both, tests_one}
use Rattle.pim_audit.proofs.changes.push_machine.Goals as goal

pub returns-clause-new : goal.returns-clause-new
returns-clause-new g c =
    let bytes_of = g.F.Family.bytes_of in
    let join = entry true (bytes_of c.args.machine.group) (what_seen bytes_of c.args.machine.what) in
    let prune = entry false (bytes_of c.args.machine.group) (what_seen bytes_of c.args.machine.what) in
    let new = new_at c.args.is_known g.F.Family.family c.args.sides.now c.args.dues.now in
    added_both (map (event_seen bytes_of) c.args.changes.now.new.items) (map (event_seen bytes_of) c.push_entry.new.changes.new.items)
    (map (event_seen bytes_of) c.push_entry-2.new.changes.new.items) (new join) (new prune)
    (c.in_ok-push_entry.ensures.new ∙ ap (λ b. map (event_seen bytes_of) c.args.changes.now.new.items
    ++ new_if b join (held_at c.args.dues.now join)) (c.eq.ensures ∙ tests_one c.due_of-due.result true ∙ c.due_of-due.ensures true))
    (c.in_ok-push_entry-2.ensures.new ∙ ap (λ b. map (event_seen bytes_of) c.push_entry.new.changes.new.items
    ++ new_if b prune (held_at c.args.dues.now prune)) (c.eq-2.ensures ∙ tests_one c.due_of-due.result false ∙ c.due_of-due.ensures false))

pub returns-clause-gone : goal.returns-clause-gone
returns-clause-gone g c =
    let bytes_of = g.F.Family.bytes_of in
    let join = entry true (bytes_of c.args.machine.group) (what_seen bytes_of c.args.machine.what) in
    let prune = entry false (bytes_of c.args.machine.group) (what_seen bytes_of c.args.machine.what) in
    let gone = gone_at c.args.is_known g.F.Family.family c.args.sides.now c.args.dues.now in
    added_both (dues_seen bytes_of c.args.changes.now.gone.items) (dues_seen bytes_of c.push_entry.new.changes.gone.items)
    (dues_seen bytes_of c.push_entry-2.new.changes.gone.items) (gone join) (gone prune)
    (c.in_ok-push_entry.ensures.gone ∙ ap (λ b. dues_seen bytes_of c.args.changes.now.gone.items
    ++ gone_if b (held_at c.args.dues.now join)) (c.eq.ensures ∙ tests_one c.due_of-due.result true ∙ c.due_of-due.ensures true))
    (c.in_ok-push_entry-2.ensures.gone ∙ ap (λ b. dues_seen bytes_of c.push_entry.new.changes.gone.items
    ++ gone_if b (held_at c.args.dues.now prune)) (c.eq-2.ensures ∙ tests_one c.due_of-due.result false ∙ c.due_of-due.ensures false))
