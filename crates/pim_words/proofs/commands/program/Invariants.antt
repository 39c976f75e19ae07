use Rattle.pim_words.proofs.Words.{◌≡◌, drop, false, fold, app_of, with_subcommand, out-Command, program, shape_by}
use Rattle.pim_words.proofs.commands.program.Given as goal

abbrev pub invariant-loop-offer : goal.invariant-loop-offer
invariant-loop-offer l = record {
  app : fold (λ app offer. with_subcommand app (shape_by offer)) (app_of l.whole) (drop l.offer-index l.offers) ≡ program l.offers;
  local : (out-Command l.whole).has_globals ≡ false;
}
