-- A table's rows, added one by one.
use Rattle.pim_words.proofs.Words.{◌≡◌, ◌∙◌, sym, ap, ℕ, ◌+◌, ◌<◌, ◌≤◌, List, length, drop, get_or, fold, at_drop_more}
use Rattle.pim_words.proofs.Words.{drop_all, App}

module _ {X : Type 0} (add : App → X → App) (rows : List X) (i : ℕ) (whole : App) where
  pub one_more : (past : X) (before after : App) → i < length rows → fold add before (drop i rows) ≡ whole → after ≡ add before (get_or rows i past) → fold add after (drop (i + 1) rows) ≡ whole
  one_more past before after inside so_far added =
      ap (λ (a : App). fold add a (drop (i + 1) rows)) added ∙ sym (at_drop_more (fold add before) rows i past inside) ∙ so_far

  pub all_added : (after : App) → length rows ≤ i → fold add after (drop i rows) ≡ whole → after ≡ whole
  all_added after beyond so_far = sym (ap (fold add after) (drop_all i rows beyond)) ∙ so_far
