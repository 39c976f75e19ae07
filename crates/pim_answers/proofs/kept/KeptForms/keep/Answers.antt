use Rattle.std.proofs.Common.{◌∙◌, sym}
use Rattle.pim_answers.proofs.Stores.{kept_new, kept_put, if_ok}
use Rattle.pim_answers.proofs.kept.KeptForms.keep.Goals as goal

pub returns-in_default-clause-ok : goal.returns-in_default-clause-ok
returns-in_default-clause-ok c =
    if_ok c.add.result _ _ (λ e. e ∙ sym (kept_new c.args.name.now c.args.self.now.entries.items c.args.form (sym c.place_of.ensures ∙ c.in_default.is))) c.add.ensures.ok

pub returns-clause-ok : goal.returns-clause-ok
returns-clause-ok c =
    kept_put c.args.name.now c.args.self.now.entries.items c.args.form c.in-Some.place c.index_mut-entry.result.now (sym c.place_of.ensures ∙ c.in-Some.is) c.index_mut-entry.ensures.value
