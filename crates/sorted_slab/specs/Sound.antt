-- The invariants of every list whose items are in a slab.
use Rattle.std.specs.Prelude.{◌≡◌, ◌≢◌, ℕ, List, [], ◌∷◌, length, IsSome}
use Rattle.std.specs.List.{AllByRecursion}
use Rattle.slab.specs.Slab.{Slab, get, slab_len}

-- No number occurs twice in the list.
unfoldable pub AllDiffer : List ℕ → Type 0
AllDiffer [] = Unit {0}
AllDiffer (number ∷ numbers) = AllByRecursion (λ other. other ≢ number) numbers × AllDiffer numbers

-- The slab has an item for each number.
unfoldable pub AllHeld : {A : Type 0} → Slab A → List ℕ → Type 0
AllHeld slab [] = Unit {0}
AllHeld slab (number ∷ numbers) = IsSome (get slab number) × AllHeld slab numbers

-- The numbers of the index are those of all items of the slab, each once.
pub record IsSound {A : Type 0} (slab : Slab A) (numbers : List ℕ) : Type 0 where
  pub differ : AllDiffer numbers
  pub held : AllHeld slab numbers
  pub nothing_else : slab_len slab ≡ length numbers
