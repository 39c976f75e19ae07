use Rattle.std.proofs.Common.{rules}
use Rattle.pim_audit.proofs.Words.{ap, subst, Downstream}
use Rattle.pim_down.specs.Sound.{IsSound}
use Rattle.pim_router.specs.Reading.{reading_seen}
use Rattle.pim_router.specs.State.{Setup}
use Rattle.pim_audit.specs.Touched.{TouchesReading}
use Rattle.pim_audit.proofs.ReadMoment.{received_moment}
use Rattle.pim_audit.proofs.Touching.{taking_stays}
use Rattle.pim_audit.proofs.taking.take_message.Goals as goal

pub returns-else-has_neighbour-was_neighbour-clause-stays : goal.returns-else-has_neighbour-was_neighbour-clause-stays
returns-else-has_neighbour-was_neighbour-clause-stays g c =
    let family = g.F.Family.family in
    record {
      states = taking_stays c.hearing_acts_at_each_key.ensures family c.args.port (g.F.Family.bytes_of c.args.src) c.args.router.now
          c.take_read.new.self c.in_ok-verdict.verdict (reading_seen family c.args.message.now) c.touch_read.new.touched
          c.in_ok-verdict.ensures.reported (subst (λ (m : Downstream). IsSound family m) c.ports.ensures c.is_sound.ensures)
          (subst (λ (m : Downstream). TouchesReading c.args.port (reading_seen family c.args.message.now) m c.touch_read.new.touched)
          c.ports-2.ensures c.touch_read.ensures.touches);
      routes = ap (λ (s : Setup). s.routes) c.take_read.ensures.setup;
      known = λ group what apart. search rules;
    }

pub returns-else-has_neighbour-was_neighbour-clause-moment : goal.returns-else-has_neighbour-was_neighbour-clause-moment
returns-else-has_neighbour-was_neighbour-clause-moment g c =
    received_moment g.F.Family.family c.args.port (g.F.Family.bytes_of c.args.src) c.args.router.now c.take_read.new.self
    (reading_seen g.F.Family.family c.args.message.now) c.in_ok-verdict.verdict c.in_ok-verdict.ensures.reported
