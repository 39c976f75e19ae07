use Rattle.pim_down.proofs.Words.{◌≡◌, ℕ, suc, ◌+◌, ◌<◌, true, length, get_or, drop, sym, subst, arith, add-one, ◌∙◌, is_lt, Ascend, key_seen}
use Rattle.pim_down.proofs.RunPut.{ascend_more, ascend_so_far, lt_is}
use Rattle.pim_down.proofs.Rpts.{same_default}
use Rattle.pim_down.proofs.records.alarms.count_ascending.Goals as goal

pub loop-count-init : goal.loop-count-init
loop-count-init g c = record {
  within = omega arith;
  ascend = λ n are.
      let same : n ≡ 0 + n = omega arith in
      subst (λ (k : ℕ). Ascend g.O.KeyOrder.bytes_of c.args.slab.now k (key_seen g.O.KeyOrder.bytes_of c.args.key.now) c.args.numbers.now) same are;
}

pub loop-count-preserved : goal.loop-count-preserved
loop-count-preserved g c =
    let bytes_of = g.O.KeyOrder.bytes_of in
    let slab = c.args.slab.now in
    let numbers = c.args.numbers.now in
    let i = c.loop-count.count in
    let n = get_or numbers i 0 in
    let held = c.in-Some.held.now in
    let within : i < length numbers = omega (arith, c.loop-count-test.true) in
    let is : is_lt c.compare.result ≡ true = sym c.is_lt.ensures ∙ c.if-not-is_lt.false in
    record {
      within = omega (arith, c.loop-count-test.true);
      ascend = λ m are.
          let next : i + suc m ≡ i + 1 + m = omega arith in
          subst (λ (k : ℕ). Ascend bytes_of slab k (key_seen bytes_of c.args.key.now) numbers) next
          (c.loop-count.invariant.ascend (suc m)
          (ascend_more bytes_of slab m (key_seen bytes_of c.loop-count.last) held i n numbers within (same_default numbers i 0 n within) (sym (c.in-Some.ensures {u = tt})) (sym c.compare.ensures ∙ lt_is c.compare.result is)
          (subst (λ (k : ℕ). Ascend bytes_of slab m (key_seen bytes_of held.key) (drop k numbers)) (add-one i) are)));
    }

pub returns-in_default-clause-ascend : goal.returns-in_default-clause-ascend
returns-in_default-clause-ascend g c = ascend_so_far g.O.KeyOrder.bytes_of c.args.slab.now c.loop-count.count (key_seen g.O.KeyOrder.bytes_of c.args.key.now) (key_seen g.O.KeyOrder.bytes_of c.loop-count.last) c.args.numbers.now c.loop-count.invariant.ascend

pub returns-then-not-is_lt-clause-ascend : goal.returns-then-not-is_lt-clause-ascend
returns-then-not-is_lt-clause-ascend g c = ascend_so_far g.O.KeyOrder.bytes_of c.args.slab.now c.loop-count.count (key_seen g.O.KeyOrder.bytes_of c.args.key.now) (key_seen g.O.KeyOrder.bytes_of c.loop-count.last) c.args.numbers.now c.loop-count.invariant.ascend

pub returns-clause-ascend : goal.returns-clause-ascend
returns-clause-ascend g c = ascend_so_far g.O.KeyOrder.bytes_of c.args.slab.now c.loop-count.count (key_seen g.O.KeyOrder.bytes_of c.args.key.now) (key_seen g.O.KeyOrder.bytes_of c.loop-count.last) c.args.numbers.now c.loop-count.invariant.ascend
