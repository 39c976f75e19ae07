-- Of which neighbour a form's wants are asked.
use Rattle.std.proofs.Common.{◌≡◌, ◌∙◌, ◌+◌, ◌<◌, ℕ, Bool, true, false, ◌&&◌, List, length, get_or, drop, map, refl, sym, ap, add-one}
use Rattle.std.specs.List.{list_all}
use Rattle.std.proofs.Math.Seq.{drop-cons, drop-length}

module _ {A : Type 0} (bytes_of : A → List ℕ) (test : List ℕ → Bool) (xs : List A) where
  -- what is left passes a test where the first does, and what is left behind it
  first_is : (i : ℕ) (x : A) (answer : Bool) → i < length xs → x ≡ get_or xs i x → answer ≡ test (bytes_of x)
      → (answer && list_all test (map bytes_of (drop (i + 1) xs))) ≡ list_all test (map bytes_of (drop i xs))
  first_is i x answer below at is =
      ap (λ b. b && list_all test (map bytes_of (drop (i + 1) xs))) (is ∙ ap (λ y. test (bytes_of y)) at)
      ∙ rw (add-one i, drop-cons xs i x below) refl

  pub stops : (i : ℕ) (x : A) → i < length xs → x ≡ get_or xs i x → false ≡ test (bytes_of x)
      → list_all test (map bytes_of (drop i xs)) ≡ list_all test (map bytes_of xs) → false ≡ list_all test (map bytes_of xs)
  stops i x below at fails all = first_is i x false below at fails ∙ all

  pub goes_on : (i : ℕ) (x : A) → i < length xs → x ≡ get_or xs i x → true ≡ test (bytes_of x)
      → list_all test (map bytes_of (drop i xs)) ≡ list_all test (map bytes_of xs) → list_all test (map bytes_of (drop (i + 1) xs)) ≡ list_all test (map bytes_of xs)
  goes_on i x below at passes all = first_is i x true below at passes ∙ all

  pub ended : (i : ℕ) → i ≡ length xs → list_all test (map bytes_of (drop i xs)) ≡ list_all test (map bytes_of xs) → true ≡ list_all test (map bytes_of xs)
  ended i whole all = sym (rw (whole, drop-length xs) refl) ∙ all
