use Rattle.sorted_blocks.proofs.Words.{◌≡◌, [], ◌∷◌, ◌++◌, length, get_or, sym, ap, ◌∙◌, arith, insert, Shape, nil_from_length}
use Rattle.sorted_blocks.proofs.Firsts.{led_insert, led_long}
use Rattle.sorted_blocks.proofs.Kept.{kept_insert}
use Rattle.sorted_blocks.proofs.store.BlockStore.begin.Goals as goal

pub invariant_of-self : goal.invariant_of-self
invariant_of-self g c =
    let bs = c.self.inside.used.items in
    let none : bs ≡ [] = (ap (λ (s : Shape g.row.T.Denot). s.blocks) c.self.view_is) ∙ c.requires.none in
    let alone : c.put.new.self ≡ c.args.item ∷ [] = c.put.ensures ∙ ap (λ xs. c.args.item ∷ xs) c.clear.ensures in
    let one = ap length alone in
    let items : c.push_reserved.new.self.items ≡ insert bs 0 c.put.new.self = c.push_reserved.ensures.items ∙ ap (λ xs. xs ++ c.put.new.self ∷ []) none ∙ sym (ap (λ xs. c.put.new.self ∷ xs) none) in
    let no_firsts = nil_from_length c.self.inside.firsts.items (omega (arith, ap length none, led_long _ bs _ _ _ c.self.invariant.0.filled c.self.invariant.1)) in
    let firsts : c.push_reserved-2.new.self.items ≡ insert c.self.inside.firsts.items 0 c.args.item = c.push_reserved-2.ensures.items ∙ ap (λ xs. xs ++ c.args.item ∷ []) no_firsts ∙ sym (ap (λ xs. c.args.item ∷ xs) no_firsts) in
    rw (items, firsts) (kept_insert _ bs _ _ _ _ c.self.invariant.0 0 c.put.new.self (omega arith) (omega (arith, one)) (omega (arith, one, c.self.invariant.0.half_some)) _ _ _ _ c.take_last-fresh.ensures.len (omega (arith, c.push_reserved.ensures.capacity)) (omega (arith, c.take_last-fresh.ensures.capacity)) (omega (arith, one)), led_insert _ bs _ _ _ c.self.invariant.0.filled c.self.invariant.1 0 c.put.new.self c.args.item (omega arith) (omega (arith, one)) (ap (λ xs. get_or xs 0 c.args.item) (sym alone)) _ _ c.take_last-fresh.ensures.len (omega (arith, c.push_reserved-2.ensures.capacity)))

pub push_reserved-requires-2 : goal.push_reserved-requires-2
push_reserved-requires-2 g c =
    let long = led_long _ c.self.inside.used.items _ _ _ c.self.invariant.0.filled c.self.invariant.1 in
    omega (arith, (ap (λ (s : Shape g.row.T.Denot). s.spare) c.self.view_is), long, c.requires.spare, c.self.inside.firsts.ok.0, c.self.invariant.1.row_room)
