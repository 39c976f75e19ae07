-- What the clauses of private functions say of the fields of a line.
use Rattle.std.specs.Prelude.{◌≡◌, ◌≤◌, ◌<◌, ℕ, List, ◌∷◌}
use Rattle.std.specs.List.{AllByRecursion}

-- Neither a space nor a control character is among these bytes.
abbrev pub IsField : List ℕ → Type 0
IsField bytes = AllByRecursion (λ byte. 32 < byte) bytes

-- The first of these bytes is a space or a control character.
pub record IsLed (bytes : List ℕ) : Type 0 where
  pub first : ℕ
  pub others : List ℕ
  pub is : bytes ≡ first ∷ others
  pub low : first ≤ 32
