use Rattle.std.proofs.Common.{◌≡◌, ◌∙◌, ◌++◌, List, None, Option, length, slice_index_or, map, sym, ap, subst, arith}
use Rattle.std.specs.Option.{option_map}
use Rattle.pim_merge.specs.Run.{turn_seen}
use Rattle.pim_router.specs.State.{Setup}
use Rattle.pim_trace.specs.Kept.{ledger_seen}
use Rattle.pim_trace.specs.Ledger.{Ledger}
use Rattle.pim_audit_events.specs.declared.line.AuditLine.{AuditLine}
use Rattle.pim_audit_events.specs.Seen.{lines_seen, origin_seen}
use Rattle.pim_audit.specs.Audited.{AuditState}
use Rattle.pim_audit.specs.Own.{own_restart, after_own}
use Rattle.pim_audit.specs.Ready.{TrackedRun}
use Rattle.pim_audit.specs.Run.{Progress, progress_of, ledger_of, counted, message_of, origin_of, own_in, frame_on, restart_in}
use Rattle.pim_audit.specs.Totals.{with_lines}
use Rattle.pim_audit.specs.Turn.{ReceivedMessage, received_seen, TakesTurn}
use Rattle.pim_audit.specs.TurnLines.{turn_lines}
use Rattle.pim_audit.proofs.Progress.{own_same, frames_stay, own_stays, counted_frames, opens}
use Rattle.pim_audit.proofs.run.audit_turn.Goals as goal

pub returns-clause-turn : goal.returns-clause-turn
returns-clause-turn g c =
    let bytes_of = g.F.Family.bytes_of in
    let family = g.F.Family.family in
    let groups = map bytes_of c.args.groups.now in
    let turn = turn_seen c.args.bytes.now c.args.turn.now in
    let port = c.args.turn.now.capture in
    let router = c.args.router.now in
    let after = c.take_turn.new.router in
    let report = c.in_ok-report.report in
    let message = message_of family turn in
    let audit_is = ap (λ (r : TrackedRun). r.run.audit) c.run.view_is in
    let progress_is = ap (λ (r : TrackedRun). r.run.progress) c.run.view_is in
    let totals_is = ap (λ (r : TrackedRun). r.run.totals) c.run.view_is in
    let now = counted turn c.args.run.now.run.progress in
    let opened_is : progress_of (ledger_seen bytes_of c.open.new.self) ≡ now =
    opens turn c.frame_after-next.result c.frame.result c.time.result (ledger_seen bytes_of c.run.inside.ledger) (ledger_seen bytes_of c.open.new.self)
    c.open.ensures c.frame.ensures (c.frame_after-next.ensures c.args.bytes.now) (c.time.ensures c.args.bytes.now)
    ∙ ap (counted turn) progress_is in
    let message_is = c.received_in-received.ensures in
    let frame_is : c.frame-frame.result ≡ frame_on port now = c.frame-frame.ensures ∙ ap (frame_on port) opened_is in
    let own_is : c.own_in-own.result ≡ own_in port router message = c.own_in-own.ensures ∙ ap (own_in port router) message_is in
    let restart_is : c.remember_own-restart.result ≡ restart_in port router message now =
    c.remember_own-restart.ensures.restart
    ∙ ap (λ f. own_restart f (slice_index_or (progress_of (ledger_seen bytes_of c.open.new.self)).own port None) c.own_in-own.result) frame_is
    ∙ ap (λ (p : Progress). own_restart (frame_on port now) (slice_index_or p.own port None) c.own_in-own.result) opened_is
    ∙ ap (own_restart (frame_on port now) (slice_index_or now.own port None)) own_is in
    let origin_is : option_map (origin_seen bytes_of) c.origin_of-origin.result ≡ origin_of port (frame_on port now) message =
    c.origin_of-origin.ensures
    ∙ ap (λ f. origin_of port f (option_map (received_seen family bytes_of) c.received_in-received.result)) frame_is
    ∙ ap (origin_of port (frame_on port now)) message_is in
    let lines_are =
    c.in_ok-push_turn.ensures
    ∙ ap (λ (l : List (AuditLine g.row.F-Addr.Denot)). lines_seen bytes_of l ++ turn_lines bytes_of c.now.result (option_map (origin_seen bytes_of) c.origin_of-origin.result) c.remember_own-restart.result report) c.new-lines.ensures.items
    ∙ ap (λ m. turn_lines bytes_of m (option_map (origin_seen bytes_of) c.origin_of-origin.result) c.remember_own-restart.result report) c.now.ensures
    ∙ ap (λ o. turn_lines bytes_of after.machines.moment o c.remember_own-restart.result report) origin_is
    ∙ ap (λ r. turn_lines bytes_of after.machines.moment (origin_of port (frame_on port now) message) r report) restart_is in
    record {
      report = report;
      takes = subst (λ (a : AuditState). TakesTurn family bytes_of turn.moment port message a router report c.take_turn.new.tracked.audit after) audit_is
          (subst (λ (m : Option ReceivedMessage). TakesTurn family bytes_of turn.moment port m c.run.inside.tracked.audit router report c.take_turn.new.tracked.audit after) message_is
          c.in_ok-report.ensures.turn);
      lines_are = lines_are;
      progress = ap progress_of c.remember_own-restart.ensures.ledger
          ∙ own_same port c.own_in-own.result (ledger_seen bytes_of c.open.new.self)
          ∙ ap (λ p. progress_of (after_own port c.own_in-own.result (ledger_of p))) opened_is
          ∙ ap (λ o. progress_of (after_own port o (ledger_of now))) own_is;
      totals = c.with_lines-run-inside.ensures
          ∙ ap (λ (l : List (AuditLine g.row.F-Addr.Denot)). with_lines groups (lines_seen bytes_of l) c.run.inside.totals) c.deref.ensures.value
          ∙ ap (with_lines groups (lines_seen bytes_of c.push_turn.new.lines.items)) totals_is;
      together = c.in_ok-report.ensures.step;
    }

pub returns-clause-ready : goal.returns-clause-ready
returns-clause-ready g c =
    let bytes_of = g.F.Family.bytes_of in
    let turn = turn_seen c.args.bytes.now c.args.turn.now in
    let port = c.args.turn.now.capture in
    let progress_is = ap (λ (r : TrackedRun). r.run.progress) c.run.view_is in
    let opened_is : progress_of (ledger_seen bytes_of c.open.new.self) ≡ counted turn c.args.run.now.run.progress =
    opens turn c.frame_after-next.result c.frame.result c.time.result (ledger_seen bytes_of c.run.inside.ledger) (ledger_seen bytes_of c.open.new.self)
    c.open.ensures c.frame.ensures (c.frame_after-next.ensures c.args.bytes.now) (c.time.ensures c.args.bytes.now)
    ∙ ap (counted turn) progress_is in
    let ports = ap (λ (s : Setup). length s.ports) c.take_turn.ensures.setup in
    record {
      frames = ap (λ (l : Ledger). length l.frames) c.remember_own-restart.ensures.ledger
          ∙ frames_stay port c.own_in-own.result (ledger_seen bytes_of c.open.new.self)
          ∙ ap (λ (p : Progress). length p.frames) opened_is
          ∙ counted_frames turn c.args.run.now.run.progress ∙ c.requires.ready.frames ∙ sym ports;
      own = ap (λ (l : Ledger). length l.own) c.remember_own-restart.ensures.ledger
          ∙ own_stays port c.own_in-own.result (ledger_seen bytes_of c.open.new.self)
          ∙ ap (λ (p : Progress). length p.own) opened_is ∙ c.requires.ready.own ∙ sym ports;
      step = c.in_ok-report.ensures.step;
      holds = c.in_ok-report.ensures.holds;
      present = omega (arith, c.in_ok-report.ensures.reached, c.requires.moment, c.requires.ready.present);
    }
