use Rattle.pim_addr.specs.Routes.{rp_of}
use Rattle.pim_audit.proofs.Words.{subst, sym, Downstream}
use Rattle.pim_audit.specs.Asked.{at_once}
use Rattle.pim_audit.specs.Touched.{OthersStay}
use Rattle.pim_audit.proofs.StayingHeard.{heard_stays}
use Rattle.pim_audit.proofs.Touching.{stays_then}
use Rattle.pim_audit.proofs.asked.hear_at_once.Goals as goal

pub returns-clause-stays : goal.returns-clause-stays
returns-clause-stays g c =
    stays_then c.touch_message.new.self c.pass_to.new.touched c.args.asked.now c.hear.new.self c.pass_to.new.asked c.pass_to.ensures.grows
    (subst (λ (s : Downstream). OthersStay c.touch_message.new.self c.args.asked.now s) (sym c.in_ok-hear.ensures.ok)
    (heard_stays c.hearing_acts_at_each_key.ensures g.F.Family.family 0 c.args.message.now (rp_of g.F.Family.family c.args.routes.now) at_once
    c.args.asked.now c.touch_message.new.self c.is_sound.ensures c.touch_message.ensures.touches))
    c.pass_to.ensures.stays
