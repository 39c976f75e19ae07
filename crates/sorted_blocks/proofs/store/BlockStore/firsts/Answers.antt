use Rattle.sorted_blocks.proofs.Words.{sym, ap, ◌∙◌, Shape}
use Rattle.sorted_blocks.proofs.Firsts.{is_lead}
use Rattle.sorted_blocks.proofs.store.BlockStore.firsts.Goals as goal

pub returns : goal.returns
returns g c =
    rw ((c.as_slice.ensures.value ∙ c.self.invariant.1.row_is), sym (ap (λ (s : Shape g.row.T.Denot). s.blocks) c.self.view_is)) (is_lead _ c.self.inside.used.items c.self.invariant.0.filled)
