use Rattle.std.proofs.Common.{◌≡◌, ◌∙◌, ◌++◌, ◌∷◌, [], List, None, map, ap, subst}
use Rattle.std.proofs.lemmas.List.{map-append}
use Rattle.pim_audit_events.specs.declared.line.AuditLine.{AuditLine}
use Rattle.pim_audit_events.specs.Lines.{Statement, ended}
use Rattle.pim_audit_events.specs.Seen.{line_seen, lines_seen}
use Rattle.pim_audit.specs.Audited.{AuditState, LooksAt, with_due}
use Rattle.pim_audit.specs.Lines.{line}
use Rattle.pim_audit.specs.Ready.{TrackedRun}
use Rattle.pim_audit.specs.Seen.{report_seen}
use Rattle.pim_audit.specs.Totals.{with_lines, with_all_open}
use Rattle.pim_audit.specs.TurnLines.{report_lines}
use Rattle.pim_audit.proofs.run.close.Goals as goal

pub returns : goal.returns
returns g c =
    let bytes_of = g.F.Family.bytes_of in
    let groups = map bytes_of c.args.groups.now in
    let router = c.pass_on.new.router in
    let report = c.in_ok-report.report in
    let after = c.look.new.self.audit in
    let way = lines_seen bytes_of c.in_ok-lines.lines.items in
    let at = c.now-now.ensures in
    let audit_is : c.run.inside.tracked.audit ≡ c.pass_on.new.run.run.audit = ap (λ (r : TrackedRun). r.run.audit) c.run.view_is in
    let totals_is : c.run.inside.totals ≡ c.args.run.now.run.totals = ap (λ (r : TrackedRun). r.run.totals) c.run.view_is ∙ c.pass_on.ensures.totals in
    let looked : lines_seen bytes_of c.push_look.new.lines.items ≡ way ++ report_lines bytes_of router.machines.moment None report =
    c.in_ok-push_look.ensures ∙ ap (λ m. way ++ report_lines bytes_of m None report) at in
    let counted : c.with_lines-counted.result ≡ with_lines groups (way ++ report_lines bytes_of router.machines.moment None report) c.args.run.now.run.totals =
    c.with_lines-counted.ensures
    ∙ ap (λ (l : List (AuditLine g.row.F-Addr.Denot)). with_lines groups (lines_seen bytes_of l) c.run.inside.totals) c.deref.ensures.value
    ∙ ap (λ l. with_lines groups l c.run.inside.totals) looked
    ∙ ap (with_lines groups (way ++ report_lines bytes_of router.machines.moment None report)) totals_is in
    record {
      closes = record {
        way = way;
        passed = c.pass_on.new.run.run.audit;
        passes = c.in_ok-lines.ensures.passes;
        report = report;
        after = after;
        looks = subst (λ (a : AuditState). LooksAt g.F.Family.family a router (report_seen bytes_of after.due report)) audit_is c.in_ok-report.ensures.looks;
        rest = c.look.ensures.rest ∙ ap (λ (a : AuditState). with_due a after.due) audit_is;
        totals_are = c.with_all_open-totals.ensures
            ∙ ap (λ m. with_all_open groups m c.dues.result.now c.with_lines-counted.result) at
            ∙ ap (λ d. with_all_open groups router.machines.moment d c.with_lines-counted.result) c.dues.ensures
            ∙ ap (with_all_open groups router.machines.moment after.due) counted;
        lines_are = ap (lines_seen bytes_of) c.in_ok-push.ensures.items
            ∙ map-append (line_seen bytes_of) c.push_look.new.lines.items _
            ∙ ap (λ (l : List Statement). l ++ line c.now-now.result None (ended c.with_all_open-totals.result) ∷ []) looked
            ∙ ap (λ m. (way ++ report_lines bytes_of router.machines.moment None report) ++ line m None (ended c.with_all_open-totals.result) ∷ []) at;
      };
    }
