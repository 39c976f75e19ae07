use Rattle.pim_mirror.proofs.Words.{◌∙◌, sym, false≢true, expiry_of}
use Rattle.pim_mirror.proofs.Conditions.{clash, stay_at, stay_test_at, timely_at, order_test_at, kept_test_at}
use Rattle.pim_mirror.proofs.fitting.times_fit.Goals as goal

pub returns-then-not-stay_until : goal.returns-then-not-stay_until
returns-then-not-stay_until g c = (
  λ e. absurd (false≢true e),
  λ fits. clash c.stay_until.result _ c.stay_until.ensures c.if-not-stay_until.true
      (stay_test_at g.F.Family.bytes_of c.args.fresh.now.others.now c.end_of-end.result _ c.end_of-end.ensures.end fits.others_stay),
)

pub returns-then-not-are_in_order : goal.returns-then-not-are_in_order
returns-then-not-are_in_order g c = (
  λ e. absurd (false≢true e),
  λ fits. clash c.are_in_order.result _ c.are_in_order.ensures c.if-not-are_in_order.true
      (order_test_at c.args.fresh.now.deliveries.now c.end_of-end.result _ (expiry_of c.args.holdtime) c.end_of-end.ensures.end fits.timely),
)

pub returns : goal.returns
returns g c = (
  λ e. record {
    others_stay = stay_at g.F.Family.bytes_of c.args.fresh.now.others.now c.end_of-end.result _ c.end_of-end.ensures.end
        (sym c.stay_until.ensures ∙ c.if-not-stay_until.false);
    timely = timely_at c.args.fresh.now.deliveries.now c.end_of-end.result _ c.args.count c.expiry_of.result (expiry_of c.args.holdtime) c.expiry_of.ensures
        c.end_of-end.ensures.end (sym c.are_in_order.ensures ∙ c.if-not-are_in_order.false) c.requires.deliveries.listed (c.each_is_kept.ensures.0 e);
  },
  λ fits. c.each_is_kept.ensures.1 (kept_test_at c.args.fresh.now.deliveries.now c.end_of-end.result _ c.args.count c.expiry_of.result (expiry_of c.args.holdtime) c.expiry_of.ensures
      c.end_of-end.ensures.end fits.timely),
)
