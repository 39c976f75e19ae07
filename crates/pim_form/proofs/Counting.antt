-- There are more valid sources than a star may have exceptions.
use Rattle.pim_form.proofs.Words.{◌≡◌, ◌≢◌, ◌∙◌, ℕ, zero, suc, ◌+◌, ◌*◌, ◌/◌, ◌%◌, ◌≤◌, ◌<◌, Bool, true, false, ◌||◌, ◌==◌, List}
use Rattle.pim_form.proofs.Words.{[], ◌∷◌, length, map, slice_index, if◌then◌else◌, refl, sym, ap, subst, arith, length-map}
use Rattle.pim_form.proofs.Words.{AllByRecursion, false≢true, eqb-true, ne_eqb, eq-eqb, AddressFamily, Ipv4, Ipv6, AreBytes}
use Rattle.pim_form.proofs.Words.{IsSourceAddress, same_address, is_listed, most_exceptions, Outside}
use Rattle.pim_form.proofs.Addresses.{same_is}

-- ---- numbers: of one more than a list has, one isn't in it

has : ℕ → List ℕ → Bool
has n [] = false
has n (x ∷ xs) = (x == n) || has n xs

without : ℕ → List ℕ → List ℕ
without n [] = []
without n (x ∷ xs) = if x == n then without n xs else (x ∷ without n xs)

-- what a step does to the length, by whether the number stands first
without_first : (n x : ℕ) (xs : List ℕ) → (x == n) ≡ true → without n (x ∷ xs) ≡ without n xs
unfolding without
without_first n x xs e = rw e refl

without_other : (n x : ℕ) (xs : List ℕ) → (x == n) ≡ false → without n (x ∷ xs) ≡ x ∷ without n xs
unfolding without
without_other n x xs e = rw e refl

no_longer : (n : ℕ) (xs : List ℕ) → length (without n xs) ≤ length xs
unfolding without
no_longer n [] = omega arith
no_longer n (x ∷ xs) =
    let before = no_longer n xs in
    elim (x == n) as (λ t. (x == n) ≡ t → length (without n (x ∷ xs)) ≤ suc (length xs)) [
      | true ↦ λ e. rw (without_first n x xs e) (omega (arith, before))
      | false ↦ λ e. rw (without_other n x xs e) (omega (arith, before))
    ] refl

shorter : (n : ℕ) (xs : List ℕ) → has n xs ≡ true → length (without n xs) < length xs
unfolding has without
shorter n [] h = absurd (false≢true h)
shorter n (x ∷ xs) h =
    elim (x == n) as (λ t. (x == n) ≡ t → length (without n (x ∷ xs)) < suc (length xs)) [
      | true ↦ λ e. rw (without_first n x xs e) (omega (arith, no_longer n xs))
      | false ↦ λ e.
          let left : has n xs ≡ true = rw e at h in
          rw (without_other n x xs e) (omega (arith, shorter n xs left))
    ] refl

still_absent : (n k : ℕ) (xs : List ℕ) → k ≢ n → has k (without n xs) ≡ false → has k xs ≡ false
unfolding has without
still_absent n k [] apart h = refl
still_absent n k (x ∷ xs) apart h =
    elim (x == n) as (λ t. (x == n) ≡ t → ((x == k) || has k xs) ≡ false) [
      | true ↦ λ e.
          let same : x ≡ n = eqb-true x n e in
          let other : (x == k) ≡ false = ne_eqb x k (λ this. apart (sym this ∙ same)) in
          rw other (still_absent n k xs apart (subst (λ ys. has k ys ≡ false) (without_first n x xs e) h))
      | false ↦ λ e.
          let split : ((x == k) || has k (without n xs)) ≡ false = subst (λ ys. has k ys ≡ false) (without_other n x xs e) h in
          elim (x == k) as (λ u. (u || has k (without n xs)) ≡ false → (u || has k xs) ≡ false) [
            | true ↦ λ s. s
            | false ↦ λ s. still_absent n k xs apart s
          ] split
    ] refl

record Absent (most : ℕ) (xs : List ℕ) : Type 0 where
  number : ℕ
  small : number ≤ most
  absent : has number xs ≡ false

some_absent : (most : ℕ) (xs : List ℕ) → length xs ≤ most → Absent most xs
unfolding has
some_absent zero [] few = record { number = 0; small = omega arith; absent = refl }
some_absent zero (x ∷ xs) few = absurd (omega arith)
some_absent (suc most) xs few =
    elim (has (suc most) xs) as (λ t. has (suc most) xs ≡ t → Absent (suc most) xs) [
      | true ↦ λ e.
          let found = some_absent most (without (suc most) xs) (omega (arith, shorter (suc most) xs e)) in
          record {
            number = found.number;
            small = omega (arith, found.small);
            absent = still_absent (suc most) found.number xs (omega (arith, found.small)) found.absent;
          }
      | false ↦ λ e. record { number = suc most; small = omega arith; absent = e }
    ] refl

-- ---- sources with a number in their last three bytes

numbered : AddressFamily → ℕ → List ℕ
numbered Ipv4 n = 1 ∷ n / 256 / 256 ∷ n / 256 % 256 ∷ n % 256 ∷ []
numbered Ipv6 n = 32 ∷ 0 ∷ 0 ∷ 0 ∷ 0 ∷ 0 ∷ 0 ∷ 0 ∷ 0 ∷ 0 ∷ 0 ∷ 0 ∷ 0 ∷ n / 256 / 256 ∷ n / 256 % 256 ∷ n % 256 ∷ []

three_at : ℕ → List ℕ → ℕ
three_at at address = slice_index address at * 65536 + slice_index address (at + 1) * 256 + slice_index address (at + 2)

number : AddressFamily → List ℕ → ℕ
number Ipv4 address = three_at 1 address
number Ipv6 address = three_at 13 address

number_back : (family : AddressFamily) (n : ℕ) → number family (numbered family n) ≡ n
unfolding number numbered three_at
number_back Ipv4 n = omega arith
number_back Ipv6 n = omega arith

bytes_are : (xs : List ℕ) → AllByRecursion (λ b. b < 256) xs → AreBytes xs
bytes_are [] are i = omega arith
bytes_are (x ∷ xs) are zero = are.0
bytes_are (x ∷ xs) are (suc i) = bytes_are xs are.1 i

numbered_is_source : (family : AddressFamily) (n : ℕ) → n < 256 * 65536 → IsSourceAddress family (numbered family n)
unfolding numbered
numbered_is_source Ipv4 n small =
    let high : n / 256 / 256 < 256 = omega arith in
    let middle : n / 256 % 256 < 256 = omega arith in
    let low : n % 256 < 256 = omega arith in
    ((refl, bytes_are (numbered Ipv4 n) (lit, (high, (middle, (low, tt))))), refl)
  where
    lit : 1 < 256
    lit = omega arith
numbered_is_source Ipv6 n small =
    let high : n / 256 / 256 < 256 = omega arith in
    let middle : n / 256 % 256 < 256 = omega arith in
    let low : n % 256 < 256 = omega arith in
    ((refl, bytes_are (numbered Ipv6 n) (first, (o, (o, (o, (o, (o, (o, (o, (o, (o, (o, (o, (o, (high, (middle, (low, tt))))))))))))))))), refl)
  where
    first : 32 < 256
    first = omega arith

    o : 0 < 256
    o = omega arith

-- an address whose number is in no number of a list isn't in the list
unlisted : (family : AddressFamily) (s : List ℕ) (xs : List (List ℕ)) → has (number family s) (map (number family) xs) ≡ false → is_listed s xs ≡ false
unfolding has
unlisted family s [] h = refl
unlisted family s (x ∷ xs) h =
    elim (same_address s x) as (λ t. same_address s x ≡ t → (t || is_listed s xs) ≡ false) [
      | true ↦ λ e. absurd (false≢true (sym h ∙ ap (λ t. t || has (number family s) (map (number family) xs)) (eq-eqb (number family x) (number family s) (ap (number family) (sym (same_is s x e))))))
      | false ↦ λ e. unlisted family s xs (right (number family x == number family s) (has (number family s) (map (number family) xs)) h)
    ] refl
  where
    right : (a b : Bool) → (a || b) ≡ false → b ≡ false
    right true b h = absurd (false≢true (sym h))
    right false b h = h

pub outside : (family : AddressFamily) (exceptions : List (List ℕ)) → length exceptions ≤ most_exceptions → Outside family exceptions
outside family exceptions few =
    let found = some_absent most_exceptions (map (number family) exceptions) (omega (arith, length-map exceptions (number family), few)) in
    let back = number_back family found.number in
    record {
      source = numbered family found.number;
      valid = numbered_is_source family found.number (omega (arith, found.small));
      apart = unlisted family (numbered family found.number) exceptions (subst (λ n. has n (map (number family) exceptions) ≡ false) (sym back) found.absent);
    }
