use Rattle.pim_mirror.proofs.Words.{◌∙◌, ◌==◌, sym, rules, tests, list_any-IsPermutation, IsPermutation-reverse}
use Rattle.std.specs.Prelude.{reverse}
use Rattle.std.proofs.lemmas.Iterator.Adapters.{YieldsList-from_rev_slice}
use Rattle.std.proofs.lemmas.Iterator.Search.{any_from_yields_List}
use Rattle.pim_mirror.specs.declared.config.Delivery.{Delivery}
use Rattle.pim_mirror.proofs.fresh.is_delivered.Goals as goal

pub returns : goal.returns
returns c =
    let deliveries = c.args.deliveries.now in
    any_from_yields_List (λ (delivery : Delivery). delivery.message == c.args.message) _ _ _ c.any.ensures.ran (YieldsList-from_rev_slice deliveries (cc)) (λ x b q k. search (rules, tests))
    ∙ sym (list_any-IsPermutation (λ (delivery : Delivery). delivery.message == c.args.message) deliveries (reverse deliveries) (IsPermutation-reverse deliveries))
