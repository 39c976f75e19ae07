use Rattle.pim_addr.proofs.Words.{◌≡◌, ◌∙◌, ◌-◌, ◌*◌, ◌^◌, ◌%◌, ap, length, min, arith, is_lt}
use Rattle.pim_addr.proofs.CountBelow.{halved_first, halved_shift, halved_one, one_shifted, halved_passed, halved_level, level_is_there, level_is_within}
use Rattle.pim_addr.proofs.below.count_below.Goals as goal
use Rattle.pim_addr.proofs.below.count_below.Goals.{then-level-shift, else-level-shift}

pub loop-shift-init : goal.loop-shift-init
loop-shift-init g c = record {
  few = c.ilog2-shift.ensures.bound;
  halved = rw c.from.ensures
      (halved_first g.T.Ord.cmp g.met.T.Ord.total c.args.sorted.now c.args.item c.ilog2-shift.result (length c.args.sorted.now - 1 * 2 ^ c.ilog2-shift.result % 2 ^ 64) c.is_lt.result c.index-sorted-over.result c.requires
      c.ilog2-shift.ensures.power_le c.ilog2-shift.ensures.next_power_gt (ap (λ n. length c.args.sorted.now - n) (one_shifted c.ilog2-shift.result c.ilog2-shift.ensures.bound))
      c.index-sorted-over.is (c.is_lt.ensures ∙ ap is_lt c.cmp.ensures));
}

pub loop-shift-preserved : goal.loop-shift-preserved
loop-shift-preserved g c = record {
  few = omega (arith, c.loop-shift.invariant.few);
  halved = rw c.from-in-loop-shift.ensures
      (halved_shift g.T.Ord.cmp g.met.T.Ord.total _ _ _ _ _ c.is_lt-is_less.result c.index-sorted-base.result c.requires c.loop-shift.invariant.halved (omega (arith, c.loop-shift-test.true))
      (omega (arith, c.loop-shift.invariant.few)) c.index-sorted-base.is (c.is_lt-is_less.ensures ∙ ap is_lt c.cmp-in-loop-shift.ensures));
}

pub overflow_add-base-then-level-shift : goal.overflow_add-base-then-level-shift
overflow_add-base-then-level-shift g c =
    grind (arith, level_is_there g.T.Ord.cmp c.args.sorted.now c.args.item c.loop-done.base c.loop-shift.shift c.loop-done.done c.loop-done.invariant.halved c.loop-done-test.true c.if-level-shift.true)

pub offset_bounds-sorted-base-then-level-shift : goal.offset_bounds-sorted-base-then-level-shift
offset_bounds-sorted-base-then-level-shift g c =
    omega (arith, level_is_there g.T.Ord.cmp c.args.sorted.now c.args.item c.loop-done.base c.loop-shift.shift c.loop-done.done c.loop-done.invariant.halved c.loop-done-test.true c.if-level-shift.true)

pub bounds-sorted-base-then-level-shift : goal.bounds-sorted-base-then-level-shift
bounds-sorted-base-then-level-shift g c =
    level_is_there g.T.Ord.cmp c.args.sorted.now c.args.item c.loop-done.base c.loop-shift.shift c.loop-done.done c.loop-done.invariant.halved c.loop-done-test.true c.if-level-shift.true

pub overflow_add-base-then-level-shift-2 : goal.overflow_add-base-then-level-shift-2
overflow_add-base-then-level-shift-2 g c =
    rw c.from-then-level-shift.ensures
    (grind (arith, level_is_within g.T.Ord.cmp c.args.sorted.now c.args.item c.loop-done.base c.loop-shift.shift c.loop-done.done c.loop-done.invariant.halved c.loop-done-test.true c.if-level-shift.true c.is_lt-is_less-then-level-shift.result))

pub loop-done-preserved : goal.loop-done-preserved
loop-done-preserved g c = record {
  few = c.loop-done.invariant.few;
  halved = elim c.if-level-shift.branch [
    | then-level-shift w ↦ rw (w.base-is, w.from-then-level-shift.ensures)
        (halved_level g.T.Ord.cmp c.args.sorted.now c.args.item c.loop-done.base c.loop-shift.shift c.loop-done.done c.loop-done.invariant.halved c.loop-done-test.true w.if-level-shift.true g.met.T.Ord.total
        w.is_lt-is_less-then-level-shift.result w.index-sorted-base-then-level-shift.result c.requires w.index-sorted-base-then-level-shift.is (w.is_lt-is_less-then-level-shift.ensures ∙ ap is_lt w.cmp-then-level-shift.ensures))
    | else-level-shift w ↦ rw w.base-is (halved_passed g.T.Ord.cmp c.args.sorted.now c.args.item c.loop-done.base c.loop-shift.shift c.loop-done.done c.loop-done.invariant.halved c.loop-done-test.true w.if-level-shift.false)
  ];
}

pub returns-clause-parted : goal.returns-clause-parted
returns-clause-parted g c =
    let none : min c.loop-shift.shift (12 - c.loop-done.done) ≡ 0 = omega (arith, c.loop-done-test.false) in
    rw c.from-2.ensures
    (halved_one g.T.Ord.cmp _ _ _ _ c.is_lt-2.result c.index-sorted-base-2.result c.loop-done.invariant.halved (ap (λ n. 2 ^ n) none)
    c.index-sorted-base-2.is (c.is_lt-2.ensures ∙ ap is_lt c.cmp-2.ensures))
