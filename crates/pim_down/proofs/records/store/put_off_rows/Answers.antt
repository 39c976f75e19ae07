use Rattle.pim_down.proofs.Words.{◌≡◌, ℕ, suc, ◌<◌, ◌+◌, ◌-◌, length, set, refl, ap, sym, arith, ◌∙◌, length-set, Shape, before, at, Held, put_off, put_off_from}
use Rattle.pim_down.proofs.Counts.{kept_set}
use Rattle.pim_down.proofs.PutOff.{put_off_none, put_off_next}
use Rattle.pim_down.proofs.records.store.put_off_rows.Goals as goal

pub loop-left-preserved : goal.loop-left-preserved
loop-left-preserved g c =
    let old = c.loop-left.list in
    let here = c.loop-left.here in
    let left = c.loop-left.left in
    let kept_so = c.loop-left.invariant in
    let new = c.set.new.self in
    let i = at old here in
    let held = c.get.result.now in
    let off : Held g.row.A.Denot = put_off c.args.to held in
    let some : 0 < left = c.loop-left-test.true in
    let within : i < length old.items = omega (arith, some, kept_so.within) in
    let items : new.items ≡ set old.items i off = c.set.ensures.items in
    let long = ap length items ∙ length-set old.items i off in
    let stays : at new here ≡ i = ap (λ (s : Shape ℕ). before s here) c.set.ensures.index in
    let next : at new c.next-here.result ≡ i + 1 = c.next-here.ensures.at ∙ ap (λ k. k + 1) stays in
    let fewer : left ≡ suc (left - 1) = omega (arith, some) in
    record {
      items =
          (λ k. put_off_from (next k) (left - 1) c.args.to (items k))
          ∙ put_off_next i (left - 1) left c.args.to old.items held within fewer c.get.ensures
          ∙ kept_so.items;
      kept = λ counts rpts long_counts long_rpts kept.
          kept_set counts rpts old new long_counts long_rpts (kept_so.kept counts rpts long_counts long_rpts kept) i held off within c.get.ensures refl items c.set.ensures.capacity;
      index = c.set.ensures.index ∙ kept_so.index;
      capacity = c.set.ensures.capacity ∙ kept_so.capacity;
      item = λ more. c.next-here.ensures.item (omega (arith, more, stays, long, kept_so.within));
      within = omega (arith, next, long, kept_so.within, some);
    }

pub returns-clause-items : goal.returns-clause-items
returns-clause-items g c =
    let old = c.loop-left.list in
    let i = at old c.loop-left.here in
    let none : c.loop-left.left ≡ 0 = omega (arith, c.loop-left-test.false) in
    sym (put_off_none i c.args.to old.items) ∙ ap (λ n. put_off_from i n c.args.to old.items) (sym none) ∙ c.loop-left.invariant.items
