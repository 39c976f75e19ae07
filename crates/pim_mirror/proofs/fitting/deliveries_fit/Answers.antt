use Rattle.pim_mirror.proofs.Words.{◌∙◌, sym, false≢true}
use Rattle.pim_mirror.proofs.Conditions.{clash, listed, named_test, early, early_test, delivered, delivered_test}
use Rattle.pim_mirror.proofs.fitting.deliveries_fit.Goals as goal

pub returns-then-not-are_listed : goal.returns-then-not-are_listed
returns-then-not-are_listed g c = (
  λ e. absurd (false≢true e),
  λ fits. clash c.are_listed.result _ c.are_listed.ensures c.if-not-are_listed.true
      (named_test c.args.fresh.now.deliveries.now c.args.count fits.listed),
)

pub returns-then-not-each_is_delivered : goal.returns-then-not-each_is_delivered
returns-then-not-each_is_delivered g c = (
  λ e. absurd (false≢true e),
  λ fits. sym c.if-not-each_is_delivered.true
      ∙ c.each_is_delivered.ensures.1 (delivered_test c.args.fresh.now.deliveries.now c.args.count fits.delivered),
)

pub returns : goal.returns
returns g c = (
  λ e. record {
    listed = listed c.args.fresh.now.deliveries.now c.args.count (sym c.are_listed.ensures ∙ c.if-not-are_listed.false);
    delivered = delivered c.args.fresh.now.deliveries.now c.args.count
        (c.each_is_delivered.ensures.0 c.if-not-each_is_delivered.false);
    early = early c.args.fresh.now.deliveries.now (sym c.are_early.ensures ∙ e);
  },
  λ fits. c.are_early.ensures ∙ early_test c.args.fresh.now.deliveries.now fits.early,
)
