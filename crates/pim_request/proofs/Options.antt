-- The words `holdtime S` and `budget N`, each optional.
use Rattle.pim_request.proofs.Cited.{◌≡◌, ◌∙◌, sym, subst, refl, inl, inr, ℕ, List, [], ◌∷◌, codes, decimal, WordsFault}
use Rattle.pim_request.proofs.Cited.{key, number, IsFault, budget_forms, option_forms, IsOption, AreOptions, IsHoldtime}
use Rattle.pim_request.proofs.Cited.{IsHoldtimeFault}
use Rattle.pim_request.proofs.Faults.{Leaves, onward, each, at_slot, step, beside}

not_budget : codes "holdtime" ≡ codes "budget" → ⊥
not_budget same = absurd cc

leaves : (word : List ℕ) → word ≡ codes "holdtime" → Leaves option_forms word (each (number 99 65535) budget_forms)
leaves word is = record {
  into = λ P all. elim all [
    | inl one ↦ inl one.1
    | inr some ↦ elim some [
      | inl two ↦ inr (inl two.1)
      | inr more ↦ elim more [
        | inl three ↦ absurd three
        | inr rest ↦ elim rest [ inl four ↦ absurd (not_budget (sym is ∙ four.0)) | inr none ↦ absurd none ]
      ]
    ]
  ];
  back = λ P all. elim all [ inl one ↦ inl (is, one) | inr some ↦ elim some [ inl two ↦ inr (inl (is, two)) | inr none ↦ absurd none ] ];
}

module _ (command : List ℕ) (fault : WordsFault) where
  at_holdtime : (others words : List (List ℕ)) → words ≡ codes "holdtime" ∷ others → IsFault (each (number 99 65535) budget_forms) command others fault → IsFault option_forms command words fault
  at_holdtime others words same is =
      subst (λ (ws : List (List ℕ)). IsFault option_forms command ws fault) (sym same)
      (onward option_forms (each (number 99 65535) budget_forms) command (codes "holdtime") others fault (leaves (codes "holdtime") refl) is)

  pub wrong_holdtime : (words : List (List ℕ)) → IsHoldtimeFault command words fault → IsFault option_forms command words fault
  wrong_holdtime words (others, same, is) =
      at_holdtime others words same (at_slot (number 99 65535) [] ((key (codes "budget") ∷ number 70 65000 ∷ []) ∷ []) command others fault is)

  pub wrong_budget : (n : ℕ) (words others : List (List ℕ)) → IsHoldtime n words others → IsFault budget_forms command others fault → IsFault option_forms command words fault
  wrong_budget n words others (inl (same, is, other)) faulty =
      beside (codes "holdtime") (number 99 65535 ∷ []) ((key (codes "holdtime") ∷ number 99 65535 ∷ key (codes "budget") ∷ number 70 65000 ∷ []) ∷ budget_forms) command words fault other
      (beside (codes "holdtime") (number 99 65535 ∷ key (codes "budget") ∷ number 70 65000 ∷ []) budget_forms command words fault other
      (subst (λ (ws : List (List ℕ)). IsFault budget_forms command ws fault) (sym same) faulty))
  wrong_budget n words others (inr (same, low, high)) faulty =
      at_holdtime (decimal n ∷ others) words same
      (step (number 99 65535) budget_forms command (decimal n) others (decimal n ∷ others) fault refl (n, low, high, refl) faulty)

pub are_options : (n budget : ℕ) (words others : List (List ℕ)) → IsHoldtime n words others → IsOption (codes "budget") 70 65000 1460 budget others → AreOptions n budget words
are_options n budget words others (inl (same, is, other)) option = ([], others, same, inl (refl, is), option)
are_options n budget words others (inr (same, low, high)) option = (codes "holdtime" ∷ decimal n ∷ [], others, same, inr (refl, low, high), option)
