use Rattle.sorted_blocks.proofs.Words.{◌<◌, drop, length, get_or, [], ap, ◌∙◌, arith, get_or_read, joined}
use Rattle.sorted_blocks.proofs.Walking.{walk_from, from_none}
use Rattle.sorted_blocks.proofs.Moves.{at_most}
use Rattle.sorted_blocks.proofs.store.BlockStore.iter_from.Goals as goal

pub split_at-requires : goal.split_at-requires
split_at-requires g c =
    let h : c.args.place.block < length c.all_blocks-all_blocks.result.now = omega (arith, c.if-place-all_blocks.false) in
    let e = ap length (c.as_slice.ensures ∙ get_or_read _ c.args.place.block _ h c.index-all_blocks-place.is []) in
    let f = ap (λ bs. length (get_or bs c.args.place.block [])) c.all_blocks-all_blocks.ensures.all in
    omega (arith, e, f, at_most c.args.self.now c.args.place c.requires)

pub returns-then-place-all_blocks : goal.returns-then-place-all_blocks
returns-then-place-all_blocks g c =
    let bs = c.all_blocks-all_blocks.ensures.all in
    ap (λ xs. joined (drop c.args.place.block xs)) bs ∙ from_none c.args.self.now c.args.place c.requires (omega (arith, ap length bs, c.if-place-all_blocks.true))

pub returns : goal.returns
returns g c = walk_from c.args.self.now c.args.place c.requires c.all_blocks-all_blocks.result.now c.all_blocks-all_blocks.ensures.all c.index-all_blocks-place.result _ (omega (arith, c.if-place-all_blocks.false)) c.index-all_blocks-place.is (c.split_at.ensures.back ∙ ap (drop c.args.place.at) c.as_slice.ensures)
