use Rattle.std.proofs.Common.{List, ap, map, refl, subst}
use Rattle.std.proofs.lemmas.Result.{on_ok_weaker}
use Rattle.pim_audit.proofs.Words.{AuditState, DueEntry, dues_seen, event_seen, held_entries}
use Rattle.pim_audit.proofs.Looking.{holds_now, if_both, looks}
use Rattle.pim_audit.specs.Audited.{LooksAt, sides_of, with_due}
use Rattle.pim_audit.specs.Changes.{AreChanged}
use Rattle.pim_audit.specs.Look.{LookFinds}
use Rattle.pim_audit.specs.Seen.{report_seen}
use Rattle.pim_audit.specs.declared.look.Report.{Report}
use Rattle.pim_audit.proofs.audit.Audit.look.Goals as goal

pub returns-clause-looks : goal.returns-clause-looks
returns-clause-looks g c =
    let bytes_of = g.F.Family.bytes_of in
    let family = g.F.Family.family in
    let before = c.args.self.now in
    let router = c.args.router.now in
    let due = c.look_at-report.new.dues in
    let new = map (event_seen bytes_of) c.in_ok-changes.changes.new.items in
    let gone = dues_seen bytes_of c.in_ok-changes.changes.gone.items in
    if_both c.look_at-report.result
    (λ (report : Report g.row.F-Addr.Denot). LookFinds c.self.inside.dues (held_entries due) c.now.result c.self.inside.grace
    (report_seen bytes_of due report))
    (λ (report : Report g.row.F-Addr.Denot). LooksAt family before router (report_seen bytes_of due report))
    (AreChanged c.self.inside.dues new gone (held_entries due))
    (λ report finds changed. looks family before router (sides_of before router) c.self.inside.dues (held_entries due) c.now.result
    c.self.inside.grace (report_seen bytes_of due report) refl (ap (λ (a : AuditState). a.due) c.self.view_is) c.now.ensures
    (ap (λ (a : AuditState). a.grace) c.self.view_is) c.are_of_a_change.ensures c.is_sound.ensures
    (c.in_ok-changes.ensures.exact (held_entries due)
    (subst (λ (d : List DueEntry). AreChanged d new gone (held_entries due)) (ap (λ (a : AuditState). a.due) c.self.view_is) changed)) finds)
    c.look_at-report.ensures.finds c.look_at-report.ensures.entries

pub returns-clause-holds : goal.returns-clause-holds
returns-clause-holds g c =
    let bytes_of = g.F.Family.bytes_of in
    let due = c.look_at-report.new.dues in
    let new = map (event_seen bytes_of) c.in_ok-changes.changes.new.items in
    let gone = dues_seen bytes_of c.in_ok-changes.changes.gone.items in
    let after : AuditState = record {
      upstream = bytes_of c.self.inside.upstream;
      grace = c.self.inside.grace;
      local = c.self.inside.local.now;
      asked = c.self.inside.asked;
      due = due;
    } in
    on_ok_weaker c.look_at-report.result
    (λ changed. holds_now g.F.Family.family c.args.self.now after c.args.router.now c.clear.new.self
    (ap (λ (a : AuditState). with_due a due) c.self.view_is)
    (c.in_ok-changes.ensures.exact (held_entries due)
    (subst (λ (d : List DueEntry). AreChanged d new gone (held_entries due)) (ap (λ (a : AuditState). a.due) c.self.view_is) changed)))
    c.look_at-report.ensures.entries
