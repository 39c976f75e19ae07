use Rattle.sorted_blocks.proofs.Words.{ℕ, get_or, refl, sym, ap, ◌∙◌, arith, false≢true, Greater, items}
use Rattle.sorted_blocks.proofs.Finding.{can_item, reads, found_item, found_behind}
use Rattle.sorted_blocks.proofs.store.BlockStore.find_behind.Goals as goal

pub compare-requires : goal.compare-requires
compare-requires g c = can_item (g.P.Probe.can_compare c.args.probe.now) c.args.self.now c.settled-next.result c.get.result.now c.requires.can ((c.if-not-is_item.ensures {u = tt}).0 refl) c.get.ensures

pub returns-in-Equal : goal.returns-in-Equal
returns-in-Equal g c = found_item (g.P.Probe.order c.args.probe.now) c.args.self.now c.settled-next.result c.get.result.now ((c.if-not-is_item.ensures {u = tt}).0 refl) c.get.ensures c.in-Equal.ensures

pub returns-then-not-is_item : goal.returns-then-not-is_item
returns-then-not-is_item g c =
    found_behind (g.P.Probe.order c.args.probe.now) c.args.self.now c.args.near c.behind-behind.result c.requires.less c.behind-behind.ensures.place c.behind-behind.ensures.before (λ d h. absurd (false≢true ((c.if-not-is_item.ensures {u = tt}).1 (c.settled-next.ensures.item (omega (arith, h, c.settled-next.ensures.before))))))

pub returns-in-Greater : goal.returns-in-Greater
returns-in-Greater g c =
    let greater = reads (g.P.Probe.order c.args.probe.now) c.args.self.now c.settled-next.result c.get.result.now Greater ((c.if-not-is_item.ensures {u = tt}).0 refl) c.get.ensures c.in-Greater.ensures in
    found_behind (g.P.Probe.order c.args.probe.now) c.args.self.now c.args.near c.behind-behind.result c.requires.less c.behind-behind.ensures.place c.behind-behind.ensures.before (λ d h. ap (λ (i : ℕ). g.P.Probe.order c.args.probe.now (get_or (items c.args.self.now) i d)) (sym c.settled-next.ensures.before) ∙ greater d)
