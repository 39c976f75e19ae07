use Rattle.pim_answers.proofs.Words.{◌∙◌, sym, ap, option_map, any_seen}
use Rattle.pim_answers.proofs.Stores.{not_kept, kept_here}
use Rattle.pim_answers.proofs.kept.KeptForms.get.Goals as goal

pub returns-in_err-place : goal.returns-in_err-place
returns-in_err-place c =
    ap (option_map (λ form. any_seen c.args.name.now form.now)) c.from_residual.ensures
    ∙ not_kept c.args.name.now c.args.self.now.entries.items (sym c.place_of.ensures ∙ c.in_err-place.was)

pub returns : goal.returns
returns c = kept_here c.args.name.now c.args.self.now.entries.items c.in_ok-place.place c.index-entry.result.now (sym c.place_of.ensures ∙ c.in_ok-place.was) c.index-entry.ensures
