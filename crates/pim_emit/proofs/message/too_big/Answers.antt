use Rattle.pim_emit.proofs.Words.{◌∙◌, ap, too_big}
use Rattle.pim_emit.proofs.Pieces.{all_groups}
use Rattle.pim_emit.proofs.message.too_big.Goals as goal

pub returns : goal.returns
returns g c = c.too_big_above.ensures ∙ ap (too_big g.F.Family.family c.args.budget) (all_groups c.args.demand.now.form)
