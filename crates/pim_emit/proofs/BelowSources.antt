-- The address of zeros stands before each valid source.
use Rattle.pim_emit.proofs.Words.{◌≡◌, ◌∙◌, ℕ, zero, suc, Bool, true, false, not, List, [], ◌∷◌, length, take, refl}
use Rattle.pim_emit.proofs.Words.{sym, arith, Less, AllByRecursion, false≢true, and_parts, lt-ltb, IsSourceAddress}
use Rattle.pim_emit.proofs.Words.{address_length, is_source, is_unspecified, AddressFamily, Ipv4, Ipv6, address_cmp}

zeros_before : (zeros source : List ℕ) → AllByRecursion (λ z. z ≡ 0) zeros → length zeros ≡ length source → is_unspecified source ≡ false → address_cmp zeros source ≡ Less
zeros_before [] [] all long some = absurd (false≢true (sym some))
zeros_before [] (s ∷ source) all long some = absurd (omega (arith, long))
zeros_before (z ∷ zeros) [] all long some = absurd (omega (arith, long))
zeros_before (z ∷ zeros) (zero ∷ source) all long some =
    let same : length zeros ≡ length source = omega (arith, long) in
    rw all.0 (zeros_before zeros source all.1 same some)
zeros_before (z ∷ zeros) (suc s ∷ source) all long some = rw (all.0, lt-ltb 0 (suc s) (omega arith)) refl

-- a valid source has a byte that isn't 0
some_byte : (b : Bool) → not b ≡ true → b ≡ false
some_byte true e = absurd (false≢true e)
some_byte false e = refl

specified : (family : AddressFamily) (source : List ℕ) → is_source family source ≡ true → is_unspecified source ≡ false
specified Ipv4 source h = some_byte (is_unspecified source) (and_parts _ (not (is_unspecified source)) h).1
specified Ipv6 source h = some_byte (is_unspecified source) (and_parts _ (not (is_unspecified source)) h).1

abbrev zeros : List ℕ
zeros = 0 ∷ 0 ∷ 0 ∷ 0 ∷ 0 ∷ 0 ∷ 0 ∷ 0 ∷ 0 ∷ 0 ∷ 0 ∷ 0 ∷ 0 ∷ 0 ∷ 0 ∷ 0 ∷ []

all_zeros : (family : AddressFamily) → AllByRecursion (λ z. z ≡ 0) (take (address_length family) zeros)
all_zeros Ipv4 = (refl, (refl, (refl, (refl, tt))))
all_zeros Ipv6 = (refl, (refl, (refl, (refl, (refl, (refl, (refl, (refl, (refl, (refl, (refl, (refl, (refl, (refl, (refl, (refl, tt))))))))))))))))

as_long : (family : AddressFamily) → length (take (address_length family) zeros) ≡ address_length family
as_long Ipv4 = refl
as_long Ipv6 = refl

pub below_sources : (family : AddressFamily) (source : List ℕ) → IsSourceAddress family source → address_cmp (take (address_length family) zeros) source ≡ Less
below_sources family source is =
    zeros_before (take (address_length family) zeros) source (all_zeros family) (as_long family ∙ sym is.0.0) (specified family source is.1)
