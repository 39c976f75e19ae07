use Rattle.pim_commands.proofs.Words.{◌∙◌, ℕ, List, Option, ap, map, refl}
use Rattle.pim_audit_events.specs.Lines.{Statement}
use Rattle.pim_audit_events.specs.Filter.{filter_seen, if_shown}
use Rattle.pim_audit_lines.specs.declared.json_printer.AuditJsonPrinter.{AuditJsonPrinter}
use Rattle.pim_audit_lines.specs.declared.text_printer.AuditTextPrinter.{AuditTextPrinter}
use Rattle.pim_audit_lines.specs.AuditJson.{audit_json}
use Rattle.pim_audit_lines.specs.AuditText.{audit_text}
use Rattle.pim_commands.specs.Auditing.{audit_line_of}
use Rattle.pim_commands.proofs.Audited.{as_json, as_text, as_asked}
use Rattle.pim_commands.proofs.auditing.audit_by.Goals as goal

pub returns-then-words-clause-audits : goal.returns-then-words-clause-audits
returns-then-words-clause-audits g c =
    let family = g.F.Family.family in
    let bytes_of = g.F.Family.bytes_of in
    let options = c.options_of-options.result in
    let tracing = c.args.requested.1.tracing.now in
    let upstream = c.args.requested.1.auditing.now.upstream in
    as_asked family bytes_of c.args.merge.now c.audit_into.new.merge c.args.router.now c.audit_into.new.router
    (g.W.Drain.contents c.args.writer.now) (g.W.Drain.contents c.audit_into.new.device) c.audit_into.result _ _ _ _ _ _ _ _ _ _ _ _ _ _
    (ap (map bytes_of) c.options_of-options.ensures.groups)
    (ap {B = Option ℕ → Statement → List ℕ} (λ (p : AuditJsonPrinter g.row.F-Addr.Denot) begin line. if_shown (filter_seen bytes_of p.filter) begin line (audit_json family p.names.now p.files.now (bytes_of p.upstream) begin line)) c.options_of-options.ensures.writer
    ∙ as_json family bytes_of c.deref-then-words.result.now c.deref-then-words-2.result.now upstream tracing (record { groups = c.deref.result; from = tracing.from }) c.deref.ensures.value refl c.if-words.true
    ∙ ap (λ (ports : List (List ℕ)). audit_line_of family bytes_of ports c.deref-then-words-2.result.now upstream tracing) c.deref-then-words.ensures.value
    ∙ ap (λ (files : List (List (List ℕ))). audit_line_of family bytes_of c.args.names.now.ports.items files upstream tracing) c.deref-then-words-2.ensures.value)
    c.end_of.ensures.end c.options_of-options.ensures.upstream c.options_of-options.ensures.grace c.options_of-options.ensures.local c.options_of-options.ensures.limit c.audit_into.ensures.audits

pub returns-clause-audits : goal.returns-clause-audits
returns-clause-audits g c =
    let family = g.F.Family.family in
    let bytes_of = g.F.Family.bytes_of in
    let options = c.options_of-options-2.result in
    let tracing = c.args.requested.1.tracing.now in
    let upstream = c.args.requested.1.auditing.now.upstream in
    as_asked family bytes_of c.args.merge.now c.audit_into-2.new.merge c.args.router.now c.audit_into-2.new.router
    (g.W.Drain.contents c.args.writer.now) (g.W.Drain.contents c.audit_into-2.new.device) c.audit_into-2.result _ _ _ _ _ _ _ _ _ _ _ _ _ _
    (ap (map bytes_of) c.options_of-options-2.ensures.groups)
    (ap {B = Option ℕ → Statement → List ℕ} (λ (p : AuditTextPrinter g.row.F-Addr.Denot) begin line. if_shown (filter_seen bytes_of p.filter) begin line (audit_text family p.names.now p.files.now p.form (bytes_of p.upstream) begin line)) c.options_of-options-2.ensures.writer
    ∙ as_text family bytes_of c.deref-2.result.now c.deref-3.result.now upstream tracing (record { groups = c.deref.result; from = tracing.from }) c.deref.ensures.value refl c.if-words.false
    ∙ ap (λ (ports : List (List ℕ)). audit_line_of family bytes_of ports c.deref-3.result.now upstream tracing) c.deref-2.ensures.value
    ∙ ap (λ (files : List (List (List ℕ))). audit_line_of family bytes_of c.args.names.now.ports.items files upstream tracing) c.deref-3.ensures.value)
    c.end_of-2.ensures.end c.options_of-options-2.ensures.upstream c.options_of-options-2.ensures.grace c.options_of-options-2.ensures.local c.options_of-options-2.ensures.limit c.audit_into-2.ensures.audits
