-- The place of an item among slots, slot by slot.
use Rattle.std.proofs.Common.{◌≡◌, ◌∙◌, ◌≤◌, ◌<◌, ◌+◌, ℕ, suc, Bool, true, false, cond, List, Option, length, drop, get_or, ap, arith}
use Rattle.std.proofs.lemmas.List.{at_drop_more, at_drop_all}
use Rattle.pim_merge.specs.Places.{place_of}
use Rattle.pim_merge.specs.Slots.{takes}

module _ {A : Type 0} (is_it : A → Bool) (slots : List (Option A)) (i : ℕ) where
  step : (d : Option A) → i < length slots → (b : Bool) → takes is_it (get_or slots i d) ≡ b → place_of is_it (drop i slots) ≡ cond b 0 (suc (place_of is_it (drop (i + 1) slots)))
  unfolding place_of
  step d within b is = at_drop_more (place_of is_it) slots i d within ∙ ap (λ (b : Bool). cond b 0 (suc (place_of is_it (drop (i + 1) slots)))) is

  end : length slots ≤ i → place_of is_it (drop i slots) ≡ 0
  unfolding place_of
  end over = at_drop_all (place_of is_it) slots i over

  -- the slot takes the item
  pub place_here : (place all : ℕ) (d : Option A) → i < length slots → takes is_it (get_or slots i d) ≡ true → place + place_of is_it (drop i slots) ≡ all → place ≡ all
  place_here place all d within is w = let e = step d within true is in omega (arith, e, w)

  -- a later one does
  pub place_later : (place all : ℕ) (d : Option A) → i < length slots → takes is_it (get_or slots i d) ≡ false → place + place_of is_it (drop i slots) ≡ all
      → place + 1 + place_of is_it (drop (i + 1) slots) ≡ all
  place_later place all d within is w = let e = step d within false is in omega (arith, e, w)

  -- none does
  pub place_none : (place all : ℕ) → length slots ≤ i → place + place_of is_it (drop i slots) ≡ all → place ≡ all
  place_none place all over w = let e = end over in omega (arith, e, w)
