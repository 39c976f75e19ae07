use Rattle.pim_words.proofs.Words.{◌∙◌, ap, fold, App, app_of, with_subcommand, program, shape_by}
use Rattle.pim_words.proofs.Tables.{all_added, one_more}
use Rattle.pim_words.proofs.commands.program.Goals as goal

pub loop-offer-init : goal.loop-offer-init
loop-offer-init c = record {
  app = ap (λ (a : App). fold (λ app offer. with_subcommand app (shape_by offer)) a c.args.offers.now) c.bare_command-whole.ensures.app;
  local = c.bare_command-whole.ensures.local;
}

pub loop-offer-preserved : goal.loop-offer-preserved
loop-offer-preserved c = record {
  app = one_more (λ app offer. with_subcommand app (shape_by offer)) c.args.offers.now c.loop-offer.offer-index (program c.args.offers.now) _ (app_of c.loop-offer.whole) _
      c.loop-offer-test.true c.loop-offer.invariant.app (c.in_ok-whole.ensures.app ∙ ap (with_subcommand (app_of c.loop-offer.whole)) c.in_ok-command.ensures.shape);
  local = c.in_ok-whole.ensures.local;
}

pub returns : goal.returns
returns c = record {
  app = all_added (λ app offer. with_subcommand app (shape_by offer)) c.args.offers.now c.loop-offer.offer-index (program c.args.offers.now) (app_of c.loop-offer.whole)
      c.loop-offer-test.false c.loop-offer.invariant.app;
  local = c.loop-offer.invariant.local;
}
