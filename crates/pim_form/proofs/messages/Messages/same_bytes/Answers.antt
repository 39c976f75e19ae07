use Rattle.std.proofs.Common.{◌≡◌, length, refl, arith}
use Rattle.pim_form.proofs.Spans.{same_by_items}
use Rattle.pim_form.proofs.messages.Messages.same_bytes.Goals as goal

pub returns : goal.returns
returns c =
    let long : length c.args.self.now ≡ length c.args.other.now = omega (arith, c.count-count.ensures, c.count.ensures, c.if-count.false) in (
      λ yes. same_by_items c.args.self.now c.args.other.now long (λ k below. c.loop-index.invariant k (omega (arith, c.count-count.ensures, c.loop-index-test.false))),
      λ same. refl,
    )
