use Rattle.pim_mirror.proofs.DemandsAgain.{router_demands_again}
use Rattle.pim_mirror.proofs.laws.router_demands_again.Goals as goal

pub returns : goal.returns
returns c =
    router_demands_again c.every_state_has_a_run.ensures c.run_goes_on.ensures c.run_has_one_end.ensures c.course_hears_all.ensures c.router_leaves_its_port.ensures c.demanded_stars_have_rps.ensures c.heard_messages_are_demanded_again.ensures
