use Rattle.std.proofs.Common.{List, ap, ap₂, filter, map, subst, ◌≡◌, ◌∙◌}
use Rattle.pim_down.specs.Seen.{event_seen}
use Rattle.pim_audit.proofs.Looked.{changed, fresh_of, looked}
use Rattle.pim_audit.specs.Dued.{with_all, without_all}
use Rattle.pim_audit.specs.Look.{DueEntry, becomes_late, held_entries, marked}
use Rattle.pim_audit.specs.Order.{EntriesAscend}
use Rattle.pim_audit.specs.Seen.{dues_seen}
use Rattle.pim_audit.specs.declared.due.Due.{Due}
use Rattle.pim_audit.proofs.look.look_at.Goals as goal

pub add_new-requires-clause-fresh : goal.add_new-requires-clause-fresh
add_new-requires-clause-fresh g c =
    let bytes_of = g.F.Family.bytes_of in
    rw (c.deref-2.ensures.value, c.in_ok-ended.ensures.dues, c.deref.ensures.value)
    (fresh_of c.args.dues.now (dues_seen bytes_of c.args.changes.gone.items) (map (event_seen bytes_of) c.args.changes.new.items)
    c.requires.changes)

pub returns-clause-finds : goal.returns-clause-finds
returns-clause-finds g c =
    let bytes_of = g.F.Family.bytes_of in
    let old = c.args.dues.now in
    let gone = dues_seen bytes_of c.args.changes.gone.items in
    let new = map (event_seen bytes_of) c.args.changes.new.items in
    let now : c.add_new.new.dues ≡ with_all c.args.moment new (without_all gone old) =
    c.in_ok-add_new.ensures
    ∙ ap₂ (with_all c.args.moment) (ap (map (event_seen bytes_of)) c.deref-2.ensures.value)
    (c.in_ok-ended.ensures.dues ∙ ap (λ (l : List (Due g.row.F-Addr.Denot)). without_all (dues_seen bytes_of l) old)
    c.deref.ensures.value) in
    let up_now = subst (λ (l : List DueEntry). EntriesAscend (held_entries l)) now c.is_sound-2.ensures in
    looked old gone new c.args.moment c.args.grace c.requires.changes c.is_sound.ensures c.requires.order up_now
    c.take_late.new.dues (dues_seen bytes_of c.in_ok-ended.ended.items) (dues_seen bytes_of c.in_ok-late.late.items)
    (c.in_ok-late.ensures.dues ∙ ap (map (marked c.args.moment c.args.grace)) now)
    (c.in_ok-ended.ensures.ended ∙ ap (λ (l : List (Due g.row.F-Addr.Denot)). filter (λ (h : DueEntry). h.is_reported)
    (dues_seen bytes_of l)) c.deref.ensures.value)
    (c.in_ok-late.ensures.late ∙ ap (filter (becomes_late c.args.moment c.args.grace)) now)

pub returns-clause-entries : goal.returns-clause-entries
returns-clause-entries g c =
    let bytes_of = g.F.Family.bytes_of in
    let old = c.args.dues.now in
    let gone = dues_seen bytes_of c.args.changes.gone.items in
    let new = map (event_seen bytes_of) c.args.changes.new.items in
    let now : c.add_new.new.dues ≡ with_all c.args.moment new (without_all gone old) =
    c.in_ok-add_new.ensures
    ∙ ap₂ (with_all c.args.moment) (ap (map (event_seen bytes_of)) c.deref-2.ensures.value)
    (c.in_ok-ended.ensures.dues ∙ ap (λ (l : List (Due g.row.F-Addr.Denot)). without_all (dues_seen bytes_of l) old)
    c.deref.ensures.value) in
    let up_now = subst (λ (l : List DueEntry). EntriesAscend (held_entries l)) now c.is_sound-2.ensures in
    changed old gone new c.args.moment c.args.grace c.requires.changes c.is_sound.ensures c.requires.order up_now
    c.take_late.new.dues (c.in_ok-late.ensures.dues ∙ ap (map (marked c.args.moment c.args.grace)) now)
