-- The comparisons of byte lists and of numbers decide their equality.
use Rattle.std.specs.Prelude.{◌≡◌, ◌↔◌, ℕ, List, IsTrue, nat_eq}
use Rattle.std.specs.Cmp.{unsigned_Decides}
use Rattle.std.specs.Cmp.Lexicographic.{pointwise, bytes_decides}

-- Two lists of bytes compare equal exactly where they are equal.
pub bytes_equal : (xs ys : List ℕ) → IsTrue (pointwise nat_eq xs ys) ↔ (xs ≡ ys)
bytes_equal = bytes_decides

-- Two numbers compare equal exactly where they are equal.
pub numbers_equal : (x y : ℕ) → IsTrue (nat_eq x y) ↔ (x ≡ y)
numbers_equal x y = unsigned_Decides x y
