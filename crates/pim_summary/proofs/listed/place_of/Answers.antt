use Rattle.std.proofs.Common.{◌∙◌, ◌<◌, ◌+◌, ◌-◌, ◌/◌, length, ap, sym, arith}
use Rattle.pim_summary.specs.Lists.{is_below}
use Rattle.pim_summary.proofs.Ordered.{place_le, before, after}
use Rattle.pim_summary.proofs.listed.place_of.Goals as goal

pub loop-low-init : goal.loop-low-init
loop-low-init g c = (
  omega arith,
  place_le g.T.Listed.key c.args.address c.args.items.now,
  omega
      arith,
)

pub loop-low-preserved-then-is_below : goal.loop-low-preserved-then-is_below
loop-low-preserved-then-is_below g c =
    let item = c.index-items-middle.result in
    let below = ap (λ it. is_below (g.T.Listed.key it) c.args.address) (sym c.index-items-middle.is)
    ∙ ap (λ k. is_below k c.args.address) (sym c.key.ensures) ∙ sym c.is_below.ensures
    ∙ c.if-is_below.true in
    let within : c.loop-low.low + (c.loop-low.high - c.loop-low.low) / 2 < length c.args.items.now
    = omega (arith, c.loop-low.invariant.2, c.loop-low-test.true) in (
      omega (
        arith,
        before g.T.Listed.key c.args.address c.args.items.now (c.loop-low.low +
            (c.loop-low.high - c.loop-low.low) / 2) item c.requires within below,
      ),
      c.loop-low.invariant.1,
      c.loop-low.invariant.2,
    )

pub loop-low-preserved : goal.loop-low-preserved
loop-low-preserved g c =
    let item = c.index-items-middle.result in
    let above = ap (λ it. is_below (g.T.Listed.key it) c.args.address) (sym c.index-items-middle.is)
    ∙ ap (λ k. is_below k c.args.address) (sym c.key.ensures) ∙ sym c.is_below.ensures
    ∙ c.if-is_below.false in
    let within : c.loop-low.low + (c.loop-low.high - c.loop-low.low) / 2 < length c.args.items.now
    = omega (arith, c.loop-low.invariant.2, c.loop-low-test.true) in (
      c.loop-low.invariant.0,
      after g.T.Listed.key c.args.address c.args.items.now (c.loop-low.low + (c.loop-low.high -
          c.loop-low.low) / 2) item within above,
      omega (arith, c.loop-low.invariant.2, c.loop-low-test.true),
    )
