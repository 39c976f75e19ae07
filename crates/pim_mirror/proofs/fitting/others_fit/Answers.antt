use Rattle.pim_mirror.proofs.Words.{◌∙◌, sym, ap, false≢true, Port}
use Rattle.pim_mirror.proofs.Listed.{not_true, false_not}
use Rattle.pim_mirror.proofs.Conditions.{clash, clash_met, differ, differ_test, apart, apart_test, at_address, few}
use Rattle.pim_mirror.proofs.fitting.others_fit.Goals as goal

pub returns-then-not-are_different : goal.returns-then-not-are_different
returns-then-not-are_different g c = (
  λ e. absurd (false≢true e),
  λ fits. clash c.are_different.result _ c.are_different.ensures c.if-not-are_different.true
      (differ_test g.F.Family.bytes_of c.args.fresh.now.others.now fits.differ),
)

pub returns-then-has_address : goal.returns-then-has_address
returns-then-has_address g c =
    let bytes_of = g.F.Family.bytes_of in (
      λ e. absurd (false≢true e),
      λ fits. clash_met c.has_address.result _ c.has_address.ensures c.if-has_address.true
          (at_address bytes_of c.args.fresh.now.others.now _ _ (ap (λ (p : Port). p.address) c.port.ensures)
          (apart_test bytes_of c.args.fresh.now.others.now _ fits.not_fresh)),
    )

pub returns : goal.returns
returns g c =
    let bytes_of = g.F.Family.bytes_of in
    let others = c.args.fresh.now.others.now in (
      λ e. record {
        count = few bytes_of others c.if-fresh-gt-OTHERS_LIMIT.false;
        differ = differ bytes_of others (sym c.are_different.ensures ∙ c.if-not-are_different.false);
        not_fresh = apart bytes_of others _ (at_address bytes_of others _ _ (sym (ap (λ (p : Port). p.address) c.port.ensures))
            (sym c.has_address.ensures ∙ c.if-has_address.false));
        not_sender = apart bytes_of others _ (sym c.has_address-2.ensures ∙ not_true c.has_address-2.result e);
      },
      λ fits. false_not c.has_address-2.result (c.has_address-2.ensures ∙ apart_test bytes_of others _ fits.not_sender),
    )
