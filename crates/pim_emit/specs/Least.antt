-- The least address that passes a test.
use Rattle.std.specs.Prelude.{◌≡◌, ℕ, Bool, true, false, List, Option, None, Some}
use Rattle.std.specs.Ordering.{is_le}
use Rattle.pim_down.specs.Key.{address_cmp}

-- This address passes the test, and no lesser one does; `None` if no address passes.
abbrev pub IsLeast : (List ℕ → Bool) → Option (List ℕ) → Type 0
IsLeast test None = (address : List ℕ) → test address ≡ false
IsLeast test (Some least) =
    (test least ≡ true) × ((address : List ℕ) → test address ≡ true → is_le (address_cmp least address) ≡ true)
