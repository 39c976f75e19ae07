use Rattle.std.proofs.Common.{◌∙◌, ◌+◌, ◌∷◌, List, refl, drop, sym, ap}
use Rattle.std.proofs.lemmas.List.{drop_more}
use Rattle.std.specs.List.{flat_map}
use Rattle.pim_audit_events.specs.declared.line.AuditLine.{AuditLine}
use Rattle.pim_audit_events.specs.Seen.{line_seen, lines_seen}
use Rattle.pim_audit_events.proofs.Writing.{start_writing, write_more, written_front}
use Rattle.pim_audit_events.proofs.writer.write_lines.Goals as goal

pub loop-line-init : goal.loop-line-init
loop-line-init g c = (
  start_writing (g.T.AuditWriter.contents c.args.device.now)
      (flat_map (g.T.AuditWriter.line c.args.writer.now c.args.begin) (lines_seen g.F.Family.bytes_of c.args.lines.now)),
  refl,
)

pub returns-in_err-write_line-clause-bytes : goal.returns-in_err-write_line-clause-bytes
returns-in_err-write_line-clause-bytes g c =
    let line = g.T.AuditWriter.line c.args.writer.now c.args.begin in
    let bytes_of = g.F.Family.bytes_of in
    let at = c.loop-line.line-index in
    let rest = drop (at + 1) c.args.lines.now in
    written_front (g.T.AuditWriter.contents c.args.device.now) (g.T.AuditWriter.contents c.loop-line.device)
    (g.T.AuditWriter.contents c.write_line.new.device) c.from_residual.result (line (line_seen bytes_of c.line-item.result))
    (flat_map line (lines_seen bytes_of (drop at c.args.lines.now))) (flat_map line (lines_seen bytes_of rest))
    (flat_map line (lines_seen bytes_of c.args.lines.now)) c.from_residual.ensures.0 c.loop-line.invariant.0
    (ap (λ (l : List (AuditLine g.row.F-Addr.Denot)). flat_map line (lines_seen bytes_of l)) (drop_more c.args.lines.now at c.line-item.result c.loop-line-test.true
    ∙ ap (λ (x : AuditLine g.row.F-Addr.Denot). x ∷ rest) (sym c.line-item.is)))
    c.in_err-write_line.ensures.bytes

pub loop-line-preserved : goal.loop-line-preserved
loop-line-preserved g c =
    let line = g.T.AuditWriter.line c.args.writer.now c.args.begin in
    let bytes_of = g.F.Family.bytes_of in
    let at = c.loop-line.line-index in
    let rest = drop (at + 1) c.args.lines.now in (
      write_more (g.T.AuditWriter.contents c.args.device.now) (g.T.AuditWriter.contents c.loop-line.device)
          (g.T.AuditWriter.contents c.write_line.new.device) (line (line_seen bytes_of c.line-item.result))
          (flat_map line (lines_seen bytes_of (drop at c.args.lines.now))) (flat_map line (lines_seen bytes_of rest))
          (flat_map line (lines_seen bytes_of c.args.lines.now)) c.loop-line.invariant.0
          (ap (λ (l : List (AuditLine g.row.F-Addr.Denot)). flat_map line (lines_seen bytes_of l)) (drop_more c.args.lines.now at c.line-item.result c.loop-line-test.true
          ∙ ap (λ (x : AuditLine g.row.F-Addr.Denot). x ∷ rest) (sym c.line-item.is)))
          c.in_ok-write_line.ensures.bytes,
      c.in_ok-write_line.ensures.count ∙ c.loop-line.invariant.1,
    )
