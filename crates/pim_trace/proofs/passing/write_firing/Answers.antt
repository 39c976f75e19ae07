use Rattle.pim_trace.proofs.Words.{ℕ, List, subst, ap, AppendsAll, firing_seen, what_seen, Cause, ledger_seen}
use Rattle.pim_router.specs.Happening as happening
use Rattle.pim_events.specs.Events.{Occurrence, timer_fired}
use Rattle.pim_trace.proofs.Listed.{tells_one, same_event, is_stays}
use Rattle.pim_trace.proofs.passing.write_firing.Goals as goal

pub returns-clause-reported : goal.returns-clause-reported
returns-clause-reported g c =
    tells_one (g.T.EventWriter.line c.args.event_writer.now) (ledger_seen g.F.Family.bytes_of c.args.ledger.now) (ledger_seen g.F.Family.bytes_of c.forget_ended.new.ledger) c.args.ms
    (happening.timer_fired (firing_seen g.F.Family.bytes_of c.args.firing.now)) (g.T.EventWriter.contents c.args.device.now) (g.T.EventWriter.contents c.write_on.new.device)
    c.write_on.result c.forget_ended.ensures.ledger
    (subst (λ (e : Occurrence). AppendsAll (g.T.EventWriter.contents c.args.device.now) (g.T.EventWriter.contents c.write_on.new.device) c.write_on.result (g.T.EventWriter.line c.args.event_writer.now e))
    (same_event (ledger_seen g.F.Family.bytes_of c.args.ledger.now) (ledger_seen g.F.Family.bytes_of c.forget_ended.new.ledger) c.args.ms c.args.firing.now.before.key.port _ _
    (is_stays (happening.timer_fired (firing_seen g.F.Family.bytes_of c.args.firing.now)) (ledger_seen g.F.Family.bytes_of c.args.ledger.now) (ledger_seen g.F.Family.bytes_of c.forget_ended.new.ledger) c.forget_ended.ensures.ledger).begin
    (ap (λ (cause : Cause (List ℕ)). timer_fired (record {
      timer = c.args.firing.now.timer;
      group = g.F.Family.bytes_of c.args.firing.now.before.key.group;
      what = what_seen g.F.Family.bytes_of c.args.firing.now.before.key.what;
      before = c.args.firing.now.before.machine.state;
      after = c.args.firing.now.after;
      echo = c.args.firing.now.echo;
      cause = cause;
    })) c.cause_of.ensures))
    c.write_on.ensures.bytes)
