use Rattle.std.proofs.Common.{◌∙◌, None, length, map, ap, rules}
use Rattle.std.proofs.lemmas.List.{length-replicate}
use Rattle.pim_trace.specs.Ledger.{Ledger}
use Rattle.pim_audit.specs.Touched.{TouchedMachines}
use Rattle.pim_audit.proofs.Carrying.{nothing_held}
use Rattle.pim_audit.proofs.RunEnds.{none_tallied, nothing_yet}
use Rattle.pim_audit.proofs.run.audit_into.Goals as goal

pub returns-in_default-clause-tallied : goal.returns-in_default-clause-tallied
returns-in_default-clause-tallied g c = none_tallied c.args.end c.args.merge.now

pub returns-in_default-clause-audits : goal.returns-in_default-clause-audits
returns-in_default-clause-audits g c =
    nothing_yet g.F.Family.family g.F.Family.bytes_of (map g.F.Family.bytes_of c.args.options.now.groups.now) (g.T.AuditWriter.line c.args.options.now.writer.now)
    c.args.end c.args.merge.now _ c.args.router.now (g.T.AuditWriter.contents c.args.device.now)

pub audit_with-requires-clause-ready : goal.audit_with-requires-clause-ready
audit_with-requires-clause-ready g c = record {
  frames = ap (λ (l : Ledger). length l.frames) c.in-Ok.ensures ∙ length-replicate c.port_count.result _ ∙ c.port_count.ensures;
  own = ap (λ (l : Ledger). length l.own) c.in-Ok.ensures ∙ length-replicate c.port_count.result None ∙ c.port_count.ensures;
  step = search rules;
  present = search rules;
  holds = nothing_held g.F.Family.family c.all-touched.result c.new-audit.result c.args.router.now
      (ap (λ (t : TouchedMachines). t.all) c.all-touched.ensures);
}
