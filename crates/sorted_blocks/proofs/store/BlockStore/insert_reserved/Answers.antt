use Rattle.sorted_blocks.proofs.Words.{[], length, get_or, refl, sym, ap, ◌∙◌, arith, lit<, nil_from_length, insert, items, before}
use Rattle.sorted_blocks.proofs.Moves.{is_item, before_is, before_none, put_items, put_item, set_before}
use Rattle.sorted_blocks.proofs.Dense.{dense-one, put-dense}
use Rattle.sorted_blocks.proofs.store.BlockStore.insert_reserved.Goals as goal

pub begin-requires : goal.begin-requires
begin-requires g c = (lit< tt, (nil_from_length c.args.self.now.blocks (omega (arith, c.block_count.ensures.count, c.if-block_count-eq0.true)), c.requires.spare))

pub returns-then-block_count-eq0-clause-items : goal.returns-then-block_count-eq0-clause-items
returns-then-block_count-eq0-clause-items g c =
    let none = nil_from_length c.args.self.now.blocks (omega (arith, c.block_count.ensures.count, c.if-block_count-eq0.true)) in
    let n = before_none c.args.self.now c.args.place none c.requires.place in
    rw (c.begin.ensures.blocks, n, none) refl

pub returns-then-block_count-eq0-clause-place : goal.returns-then-block_count-eq0-clause-place
returns-then-block_count-eq0-clause-place g c =
    is_item c.begin.new.self (record { block = 0; at = 0 }) (omega (arith, ap length c.begin.ensures.blocks)) (omega (arith, (ap (λ bs. length (get_or bs 0 [])) c.begin.ensures.blocks)))

pub returns-then-block_count-eq0-clause-before : goal.returns-then-block_count-eq0-clause-before
returns-then-block_count-eq0-clause-before g c =
    let none = nil_from_length c.args.self.now.blocks (omega (arith, c.block_count.ensures.count, c.if-block_count-eq0.true)) in
    before_is c.begin.new.self (record { block = 0; at = 0 }) ∙ sym (before_none c.args.self.now c.args.place none c.requires.place)

pub returns-clause-items : goal.returns-clause-items
returns-clause-items g c =
    let made = c.make_way-place.ensures in
    let p = c.make_way-place.result in
    put_items c.make_way-place.new.self c.put.new.self p c.args.item made.block made.at c.put.ensures.blocks ∙ ap (λ xs. insert xs (before c.make_way-place.new.self p) c.args.item) made.items ∙ ap (λ n. insert (items c.args.self.now) n c.args.item) made.before

pub returns-clause-place : goal.returns-clause-place
returns-clause-place g c =
    let made = c.make_way-place.ensures in
    put_item c.make_way-place.new.self c.put.new.self c.make_way-place.result c.args.item made.block made.at c.put.ensures.blocks

pub returns-clause-before : goal.returns-clause-before
returns-clause-before g c = set_before c.make_way-place.new.self c.put.new.self c.make_way-place.result _ c.put.ensures.blocks ∙ c.make_way-place.ensures.before

pub returns-then-block_count-eq0-clause-dense : goal.returns-then-block_count-eq0-clause-dense
returns-then-block_count-eq0-clause-dense g c d = dense-one g.row.HALF c.begin.new.self.blocks _ c.begin.ensures.blocks

pub returns-clause-dense : goal.returns-clause-dense
returns-clause-dense g c d =
    let made = c.make_way-place.ensures in
    put-dense g.row.HALF c.make_way-place.new.self c.put.new.self c.make_way-place.result.block c.make_way-place.result.at c.args.item made.block made.at c.put.ensures.blocks (made.dense d)
