use Rattle.pim_mirror.proofs.Mirrored.{asked_again}
use Rattle.pim_mirror.proofs.laws.heard_messages_are_demanded_again.Goals as goal

pub returns : goal.returns
returns c = asked_again c.canonical_messages_carry_form.ensures c.demanded_stars_have_rps.ensures c.stays_as_wanted.ensures c.run_keeps_its_bounds.ensures c.one_normal_form.ensures c.one_list_of_messages.ensures
