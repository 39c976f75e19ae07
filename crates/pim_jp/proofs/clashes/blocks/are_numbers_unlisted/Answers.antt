use Rattle.pim_jp.proofs.Words.{◌≡◌, ◌∙◌, ap, take, take-take}
use Rattle.pim_jp.proofs.SortedSources.{listed_elsewhere, and_left, and_right}
use Rattle.pim_jp.proofs.clashes.blocks.are_numbers_unlisted.Goals as goal

pub returns : goal.returns
returns g c = λ both this found.
    let cut : c.split_at-2.result.0.now ≡ take c.args.ends.front c.args.block.now =
    c.split_at-2.ensures.front ∙ ap (λ xs. take c.args.ends.front xs) c.split_at.ensures.front
    ∙ take-take c.args.ends.front c.args.ends.back c.args.block.now c.requires.order in
    listed_elsewhere g.F.Family.value_of c.args.listed.sources.now c.args.listed.rpts.now c.split_at-2.result.0.now c.split_at.result.1.now
    (c.are_missing-sources_are_missing.ensures (and_left c.are_missing-sources_are_missing.result c.are_missing-rpts_are_missing.result both))
    (c.are_missing-rpts_are_missing.ensures (and_right c.are_missing-sources_are_missing.result c.are_missing-rpts_are_missing.result both))
    this (rw (cut, c.split_at.ensures.back) found)
