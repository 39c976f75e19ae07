use Rattle.std.proofs.Common.{◌∙◌, sym}
use Rattle.pim_text.proofs.Told.{other_family, a_hello_here, a_message_here}
use Rattle.pim_text.proofs.message.spell.Goals as goal

pub returns-then-not-stated_in-clause-fault : goal.returns-then-not-stated_in-clause-fault
returns-then-not-stated_in-clause-fault g c = other_family g.F.Family.family c.args.text.now c.in-Ok.stated c.in-Ok.ensures.read (sym c.stated_in.ensures ∙ c.if-not-stated_in.true)

pub hello_body-requires : goal.hello_body-requires
hello_body-requires g c = a_hello_here c.stated_in_its_family.ensures g.F.Family.family c.args.text.now c.in-Ok.stated c.in-Ok.ensures.read (sym c.stated_in.ensures ∙ c.if-not-stated_in.false) c.if-stated.true

pub join_prune_body-requires : goal.join_prune_body-requires
join_prune_body-requires g c = a_message_here c.stated_in_its_family.ensures g.F.Family.family c.args.text.now c.in-Ok.stated c.in-Ok.ensures.read (sym c.stated_in.ensures ∙ c.if-not-stated_in.false) c.if-stated.false
