use Rattle.pim_emit.proofs.Words.{◌∙◌, ap, address_cmp}
use Rattle.pim_emit.proofs.BelowSources.{below_sources}
use Rattle.pim_emit.proofs.machines.lowest.Goals as goal

pub returns : goal.returns
returns g c = λ source is. ap (λ a. address_cmp a source) c.take.ensures.bytes ∙ below_sources g.F.Family.family source is
