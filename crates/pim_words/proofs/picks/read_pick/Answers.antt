use Rattle.pim_words.proofs.Words.{◌∙◌, sym, ap, is_some}
use Rattle.pim_words.proofs.Picking.{not_fresh, no_link}
use Rattle.pim_words.proofs.picks.read_pick.Goals as goal

pub returns-then-is_some : goal.returns-then-is_some
returns-then-is_some c =
    not_fresh c.args.part c.args.is_any c.args.count c.args.earlier.now c.args.value.now c.in-Some.target.port c.in-Some.target.text.now c.in-Some.ensures
    (sym (ap is_some c.pick_for.ensures) ∙ sym c.is_some.ensures ∙ c.if-is_some.true)

pub returns-in-None : goal.returns-in-None
returns-in-None c =
    no_link c.args.part c.args.is_any c.args.count c.args.earlier.now c.args.value.now c.in-Some.target.port c.in-Some.target.text.now c.in-Some.ensures c.in-None.ensures
