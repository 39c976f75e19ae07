use Rattle.std.proofs.Common.{◌∙◌, Ok, Err, inl, map, sym, ap, subst}
use Rattle.pim_merge.specs.Ends.{end_moment}
use Rattle.pim_merge.specs.declared.merge.MergeFault.{MergeFault}
use Rattle.pim_run.specs.declared.fault.RunFault.{RunFault}
use Rattle.pim_run.specs.declared.fault.RunFault.TheVariants.{Capture, Output, Memory}
use Rattle.pim_run.specs.Faults.{OnWhole}
use Rattle.pim_run.specs.Run.{Runs}
use Rattle.pim_audit.specs.Ready.{IsReady, TrackedRun}
use Rattle.pim_audit.specs.Run.{WritesTurn, BeginsTurn, WritesEnd}
use Rattle.pim_audit.proofs.RunEnds.{end_fails, stop_fails}
use Rattle.pim_audit.proofs.SeenRuns.{runs_seen}
use Rattle.pim_audit.proofs.run.audit_with.Goals as goal

pub write_end-requires-clause-step : goal.write_end-requires-clause-step
write_end-requires-clause-step g c = c.in-Ok.ensures.ready.step

pub write_end-requires-clause-holds : goal.write_end-requires-clause-holds
write_end-requires-clause-holds g c = c.in-Ok.ensures.ready.holds

pub write_stop-requires-clause-step : goal.write_stop-requires-clause-step
write_stop-requires-clause-step g c =
    (subst (λ (f : RunFault). OnWhole {A = Unit {0}} (Err f) (IsReady g.F.Family.family c.run.new.kept c.run.new.router)) c.in-Err-Capture.field-0-is
    c.in-Err-Capture.ensures.ready).step

pub write_stop-requires-clause-holds : goal.write_stop-requires-clause-holds
write_stop-requires-clause-holds g c =
    (subst (λ (f : RunFault). OnWhole {A = Unit {0}} (Err f) (IsReady g.F.Family.family c.run.new.kept c.run.new.router)) c.in-Err-Capture.field-0-is
    c.in-Err-Capture.ensures.ready).holds

pub returns-in-Err-clause-audits : goal.returns-in-Err-clause-audits
returns-in-Err-clause-audits g c =
    let groups = map g.F.Family.bytes_of c.args.options.now.groups.now in
    let text = g.T.AuditWriter.line c.args.options.now.writer.now in
    end_fails g.F.Family.family g.F.Family.bytes_of groups text c.args.end c.args.merge.now c.args.run_state.now.run c.args.router.now
    (g.T.AuditWriter.contents c.args.device.now) c.run.new.merge c.run.new.kept.run c.run.new.router c.write_end.new.router
    (g.T.AuditWriter.contents c.run.new.device) (g.T.AuditWriter.contents c.write_end.new.device) c.in-Err.fault
    (runs_seen (λ (t : TrackedRun). t.run) (WritesTurn g.F.Family.family g.F.Family.bytes_of groups text) (BeginsTurn g.F.Family.family g.F.Family.bytes_of groups text)
    c.args.end c.args.merge.now c.run.new.merge c.args.run_state.now c.args.router.now (g.T.AuditWriter.contents c.args.device.now) {A = Unit {0}}
    c.run.new.kept c.run.new.router (g.T.AuditWriter.contents c.run.new.device) (Ok tt) c.in-Ok.ensures.runs)
    (subst (λ m. WritesEnd g.F.Family.family g.F.Family.bytes_of groups text m c.run.new.kept.run c.run.new.router c.write_end.new.router
    (g.T.AuditWriter.contents c.run.new.device) (g.T.AuditWriter.contents c.write_end.new.device) (Err c.in-Err.fault))
    (c.end_moment-moment.ensures.moment ∙ ap (end_moment c.args.end c.run.new.merge.clock) c.now.ensures) c.in-Err.ensures.ended)

pub returns-in-Ok-write_stop-clause-audits : goal.returns-in-Ok-write_stop-clause-audits
returns-in-Ok-write_stop-clause-audits g c =
    let groups = map g.F.Family.bytes_of c.args.options.now.groups.now in
    let text = g.T.AuditWriter.line c.args.options.now.writer.now in
    let stops = subst (λ (f : RunFault). Runs (WritesTurn g.F.Family.family g.F.Family.bytes_of groups text) (BeginsTurn g.F.Family.family g.F.Family.bytes_of groups text)
    c.args.end c.args.merge.now c.run.new.merge c.args.run_state.now.run c.args.router.now (g.T.AuditWriter.contents c.args.device.now) {A = Unit {0}}
    c.run.new.kept.run c.run.new.router (g.T.AuditWriter.contents c.run.new.device) (Err f)) (c.in-Err-Capture.field-0-is ∙ ap (λ (r : MergeFault). Capture r) (sym c.in-Err-Capture.reported-is))
    (runs_seen (λ (t : TrackedRun). t.run) (WritesTurn g.F.Family.family g.F.Family.bytes_of groups text) (BeginsTurn g.F.Family.family g.F.Family.bytes_of groups text)
    c.args.end c.args.merge.now c.run.new.merge c.args.run_state.now c.args.router.now (g.T.AuditWriter.contents c.args.device.now) {A = Unit {0}}
    c.run.new.kept c.run.new.router (g.T.AuditWriter.contents c.run.new.device) (Err c.in-Err-Capture.field-0) c.in-Err-Capture.ensures.runs) in
    record { run = c.run.new.kept.run; between = c.run.new.router; mid = g.T.AuditWriter.contents c.run.new.device; runs = stops; next = c.in-Ok-write_stop.ensures.stopped }

pub returns-in-Err-write_stop-clause-audits : goal.returns-in-Err-write_stop-clause-audits
returns-in-Err-write_stop-clause-audits g c =
    let groups = map g.F.Family.bytes_of c.args.options.now.groups.now in
    let text = g.T.AuditWriter.line c.args.options.now.writer.now in
    let stops = subst (λ (f : RunFault). Runs (WritesTurn g.F.Family.family g.F.Family.bytes_of groups text) (BeginsTurn g.F.Family.family g.F.Family.bytes_of groups text)
    c.args.end c.args.merge.now c.run.new.merge c.args.run_state.now.run c.args.router.now (g.T.AuditWriter.contents c.args.device.now) {A = Unit {0}}
    c.run.new.kept.run c.run.new.router (g.T.AuditWriter.contents c.run.new.device) (Err f)) c.in-Err-Capture.field-0-is
    (runs_seen (λ (t : TrackedRun). t.run) (WritesTurn g.F.Family.family g.F.Family.bytes_of groups text) (BeginsTurn g.F.Family.family g.F.Family.bytes_of groups text)
    c.args.end c.args.merge.now c.run.new.merge c.args.run_state.now c.args.router.now (g.T.AuditWriter.contents c.args.device.now) {A = Unit {0}}
    c.run.new.kept c.run.new.router (g.T.AuditWriter.contents c.run.new.device) (Err c.in-Err-Capture.field-0) c.in-Err-Capture.ensures.runs) in
    stop_fails g.F.Family.family g.F.Family.bytes_of groups text c.args.end c.args.merge.now c.args.run_state.now.run c.args.router.now
    (g.T.AuditWriter.contents c.args.device.now) c.run.new.merge c.run.new.kept.run c.run.new.router c.write_stop.new.router
    (g.T.AuditWriter.contents c.run.new.device) (g.T.AuditWriter.contents c.write_stop.new.device) c.in-Err-Capture.reported c.in-Err-write_stop.fault
    stops c.in-Err-write_stop.ensures.stopped

pub returns-in-Ok-write_end-clause-audits : goal.returns-in-Ok-write_end-clause-audits
returns-in-Ok-write_end-clause-audits g c =
    let groups = map g.F.Family.bytes_of c.args.options.now.groups.now in
    let text = g.T.AuditWriter.line c.args.options.now.writer.now in (
      c.in-Ok-write_end.totals,
      c.status_of.ensures,
      record {
        run = c.run.new.kept.run;
        between = c.run.new.router;
        mid = g.T.AuditWriter.contents c.run.new.device;
        runs = runs_seen (λ (t : TrackedRun). t.run) (WritesTurn g.F.Family.family g.F.Family.bytes_of groups text) (BeginsTurn g.F.Family.family g.F.Family.bytes_of groups text)
            c.args.end c.args.merge.now c.run.new.merge c.args.run_state.now c.args.router.now (g.T.AuditWriter.contents c.args.device.now) {A = Unit {0}}
            c.run.new.kept c.run.new.router (g.T.AuditWriter.contents c.run.new.device) (Ok tt) c.in-Ok.ensures.runs;
        next = subst (λ m. WritesEnd g.F.Family.family g.F.Family.bytes_of groups text m c.run.new.kept.run c.run.new.router c.write_end.new.router
            (g.T.AuditWriter.contents c.run.new.device) (g.T.AuditWriter.contents c.write_end.new.device) (Ok c.in-Ok-write_end.totals))
            (c.end_moment-moment.ensures.moment ∙ ap (end_moment c.args.end c.run.new.merge.clock) c.now.ensures) c.in-Ok-write_end.ensures.ended;
      },
    )

pub returns-in-Err-Output-clause-audits : goal.returns-in-Err-Output-clause-audits
returns-in-Err-Output-clause-audits g c =
    let groups = map g.F.Family.bytes_of c.args.options.now.groups.now in
    let text = g.T.AuditWriter.line c.args.options.now.writer.now in
    inl (runs_seen (λ (t : TrackedRun). t.run) (WritesTurn g.F.Family.family g.F.Family.bytes_of groups text) (BeginsTurn g.F.Family.family g.F.Family.bytes_of groups text)
    c.args.end c.args.merge.now c.run.new.merge c.args.run_state.now c.args.router.now (g.T.AuditWriter.contents c.args.device.now) {A = Unit {0}}
    c.run.new.kept c.run.new.router (g.T.AuditWriter.contents c.run.new.device) (Err Output)
    (subst (λ (f : RunFault). Runs (λ turn (kept : TrackedRun) state old (kept' : TrackedRun) after new. WritesTurn g.F.Family.family g.F.Family.bytes_of groups text turn kept.run state old kept'.run after new)
    (λ turn (kept : TrackedRun) state old new. BeginsTurn g.F.Family.family g.F.Family.bytes_of groups text turn kept.run state old new)
    c.args.end c.args.merge.now c.run.new.merge c.args.run_state.now c.args.router.now (g.T.AuditWriter.contents c.args.device.now) {A = Unit {0}}
    c.run.new.kept c.run.new.router (g.T.AuditWriter.contents c.run.new.device) (Err f)) c.in-Err-Output.field-0-is c.in-Err-Output.ensures.runs))

pub returns-in-Err-Memory-clause-audits : goal.returns-in-Err-Memory-clause-audits
returns-in-Err-Memory-clause-audits g c =
    let groups = map g.F.Family.bytes_of c.args.options.now.groups.now in
    let text = g.T.AuditWriter.line c.args.options.now.writer.now in
    inl (runs_seen (λ (t : TrackedRun). t.run) (WritesTurn g.F.Family.family g.F.Family.bytes_of groups text) (BeginsTurn g.F.Family.family g.F.Family.bytes_of groups text)
    c.args.end c.args.merge.now c.run.new.merge c.args.run_state.now c.args.router.now (g.T.AuditWriter.contents c.args.device.now) {A = Unit {0}}
    c.run.new.kept c.run.new.router (g.T.AuditWriter.contents c.run.new.device) (Err Memory)
    (subst (λ (f : RunFault). Runs (λ turn (kept : TrackedRun) state old (kept' : TrackedRun) after new. WritesTurn g.F.Family.family g.F.Family.bytes_of groups text turn kept.run state old kept'.run after new)
    (λ turn (kept : TrackedRun) state old new. BeginsTurn g.F.Family.family g.F.Family.bytes_of groups text turn kept.run state old new)
    c.args.end c.args.merge.now c.run.new.merge c.args.run_state.now c.args.router.now (g.T.AuditWriter.contents c.args.device.now) {A = Unit {0}}
    c.run.new.kept c.run.new.router (g.T.AuditWriter.contents c.run.new.device) (Err f)) c.in-Err-Memory.field-0-is c.in-Err-Memory.ensures.runs))
