use Rattle.pim_mirror.proofs.Words.{◌∙◌, ◌≤◌, ◌^◌, ℕ, max, sym, ap, subst, arith, final_moment}
use Rattle.pim_mirror.proofs.Finals.{newest, final_more, early_last, final_none}
use Rattle.pim_mirror.proofs.fresh.final_moment.Goals as goal

pub settled_at-requires-clause-early : goal.settled_at-requires-clause-early
settled_at-requires-clause-early c =
    (early_last c.loop-delivery.left.now c.in-Some.earlier.now c.in-Some.delivery.now c.in-Some.ensures.cases.0 c.loop-delivery.invariant.early).1

pub loop-delivery-preserved : goal.loop-delivery-preserved
loop-delivery-preserved c =
    let behind : ℕ = final_moment c.args.interval (newest c.in-Some.earlier.now) in record {
      latest =
          ap (λ (k : ℕ). max k behind) (c.max-latest.ensures ∙ ap (λ (k : ℕ). max k c.loop-delivery.latest) c.settled_at.ensures.settled)
          ∙ final_more c.args.interval c.loop-delivery.latest c.loop-delivery.left.now c.in-Some.earlier.now c.in-Some.delivery.now c.in-Some.ensures.cases.0
          ∙ c.loop-delivery.invariant.latest;
      early = (early_last c.loop-delivery.left.now c.in-Some.earlier.now c.in-Some.delivery.now c.in-Some.ensures.cases.0 c.loop-delivery.invariant.early).0;
      bound = subst (λ (k : ℕ). k ≤ 10 ^ 15) (sym c.max-latest.ensures) (omega (arith, c.settled_at.ensures.bound, c.loop-delivery.invariant.bound));
    }

pub returns-clause-end : goal.returns-clause-end
returns-clause-end c =
    sym (final_none c.args.interval c.loop-delivery.latest c.loop-delivery.left.now c.in_default.ensures.cases) ∙ c.loop-delivery.invariant.latest
