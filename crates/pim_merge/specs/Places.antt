-- The number of the slot that an item has or takes. Only contracts of private functions cite it.
use Rattle.std.specs.Prelude.{ℕ, suc, Bool, List, [], ◌∷◌, Option, if◌then◌else◌}
use Rattle.pim_merge.specs.Slots.{takes}

-- The number of the first slot that takes an item; the number of slots if there is none.
unfoldable pub place_of : {A : Type 0} → (A → Bool) → List (Option A) → ℕ
place_of is_it [] = 0
place_of is_it (slot ∷ slots) = if takes is_it slot then 0 else suc (place_of is_it slots)
