-- The laws of short texts.
use Rattle.std.proofs.Common.{◌≡◌, ℕ, zero, suc, ◌+◌, ◌-◌, ◌*◌, ◌/◌, ◌%◌, ◌^◌, ◌<◌, inl, inr, false, List, [], ◌∷◌, length, slice_index, take, drop, flat_map, refl, sym, ap, arith, le-leb, lt-ltb, le-ltb, take-add, take-append-drop, length-take-le, length-drop}
use Rattle.std.proofs.lemmas.Bool.{cases_lt, lt-leb}
use Rattle.std.proofs.lemmas.Str.{digit_value-digit_char}
use Rattle.std.proofs.NetLemmas.Texts.{AllSegments, AllSegments-take, AllSegments-drop, IsZeroRun-longest_zero_run, longest_zero_run_first}
use Rattle.std.specs.Char.{digit_value, digit_char}
use Rattle.std.specs.Net.Addr.{octets_of, segments_of}
use Rattle.std.specs.Net.Grammar.{IsGroup, IsGroupsAfter, IsGroups}
use Rattle.std.specs.Net.Text.{hex, groups_text, longest_zero_run, hex_groups_text}
use Rattle.pim_addr.specs.TextForms.{IsText, AreEightGroups}
use Rattle.pim_addr.specs.declared.family.AddressFamily.TheVariants.{Ipv6}
use Rattle.pim_lines.specs.ShortText.{RunIsLongest}

-- ---- the run that `::` replaces

pub run_first : RunIsLongest
run_first groups = (
  record { within = (IsZeroRun-longest_zero_run groups).0; zero = (IsZeroRun-longest_zero_run groups).1 },
  λ start count zeros. longest_zero_run_first groups start count (zeros.within, zeros.zero),
)

-- ---- a group without leading zeros is one group of the grammar

group_named : (n : ℕ) → n < 2 ^ 16 → IsGroup (hex n) n
unfolding hex
group_named n fits =
    let a : digit_value (digit_char (n / 0x1000)) ≡ n / 0x1000 = digit_value-digit_char (n / 0x1000) (omega arith) in
    let b : digit_value (digit_char (n / 0x100 % 16)) ≡ n / 0x100 % 16 = digit_value-digit_char (n / 0x100 % 16) (omega arith) in
    let c : digit_value (digit_char (n / 0x10 % 16)) ≡ n / 0x10 % 16 = digit_value-digit_char (n / 0x10 % 16) (omega arith) in
    let d : digit_value (digit_char (n % 16)) ≡ n % 16 = digit_value-digit_char (n % 16) (omega arith) in
    elim (cases_lt n 0x1000) [
      | inr four ↦ rw (le-leb _ n four) (omega arith)
      | inl h₃ ↦ elim (cases_lt n 0x100) [
        | inr three ↦ rw (lt-leb _ n h₃, le-leb _ n three) (omega arith)
        | inl h₂ ↦ elim (cases_lt n 0x10) [
          | inr two ↦ rw (lt-leb _ n h₃, lt-leb _ n h₂, le-leb _ n two) (omega arith)
          | inl h₁ ↦ rw (lt-leb _ n h₃, lt-leb _ n h₂, lt-leb _ n h₁) (omega arith)
        ]
      ]
    ]

more_named : (xs : List ℕ) → AllSegments xs → IsGroupsAfter false (58 ∷ []) (flat_map (λ t. 58 ∷ hex t) xs) xs
more_named [] h = refl
more_named (x ∷ xs) h = inl (hex x, _, refl, group_named x (h 0), more_named xs (λ j. h (suc j)))

groups_named : (xs : List ℕ) → AllSegments xs → IsGroups false (groups_text xs) xs
groups_named [] h = refl
groups_named (x ∷ xs) h = inl (hex x, _, refl, group_named x (h 0), more_named xs (λ j. h (suc j)))

-- ---- eight groups, with `::` or without

eight_named : (xs : List ℕ) → length xs ≡ 8 → AllSegments xs → AreEightGroups (hex_groups_text xs) xs
unfolding hex_groups_text
eight_named xs eight fits =
    let start = (longest_zero_run xs).0 in
    let len = (longest_zero_run xs).1 in
    let (within, zeros) = IsZeroRun-longest_zero_run xs in
    let front = length-take-le start xs (omega arith) in
    let back = length-drop (start + len) xs in
    let gap : 8 - length (take start xs) - length (drop (start + len) xs) ≡ len = omega arith in
    elim (cases_lt 1 len) [
      | inl long ↦ rw (lt-ltb 1 len long) (inr (record {
        left_text = _;
        right_text = _;
        left = take start xs;
        right = drop (start + len) xs;
        spelled = refl;
        left_groups = groups_named _ (AllSegments-take start xs fits);
        right_groups = groups_named _ (AllSegments-drop (start + len) xs fits);
        room = omega arith;
        value = rw (gap, ← zeros, ← take-add start len xs) (sym (take-append-drop (start + len) xs));
      }))
      | inr short ↦ rw (le-ltb 1 len short) (inl (groups_named xs fits, eight))
    ]

-- ---- the groups of an address

segments_fit : (bytes : List ℕ) → ((i : ℕ) → slice_index bytes i < 256) → AllSegments (segments_of bytes)
segments_fit [] are k = omega arith
segments_fit (x ∷ []) are k = omega arith
segments_fit (x ∷ y ∷ bytes) are zero = let high : x < 256 = are 0 in let low : y < 256 = are 1 in omega arith
segments_fit (x ∷ y ∷ bytes) are (suc k) = segments_fit bytes (λ i. are (suc (suc i))) k

segments_number : (k : ℕ) (bytes : List ℕ) → length bytes ≡ 2 * k → length (segments_of bytes) ≡ k
segments_number k [] even = omega arith
segments_number k (x ∷ []) even = absurd (omega arith)
segments_number k (x ∷ y ∷ bytes) even = let rest : length (segments_of bytes) ≡ k - 1 = segments_number (k - 1) bytes (omega arith) in omega arith

octets_back : (k : ℕ) (bytes : List ℕ) → length bytes ≡ 2 * k → ((i : ℕ) → slice_index bytes i < 256) → bytes ≡ octets_of (segments_of bytes)
octets_back k [] even are = refl
octets_back k (x ∷ []) even are = absurd (omega arith)
octets_back k (x ∷ y ∷ bytes) even are =
    let low : y < 256 = are 1 in
    let first : (x * 256 + y) / 256 ≡ x = omega arith in
    let second : (x * 256 + y) % 256 ≡ y = omega arith in
    rw (first, second) (ap (λ (l : List ℕ). x ∷ y ∷ l) (octets_back (k - 1) bytes (omega arith) (λ i. are (suc (suc i)))))

pub ipv6_named : (address : List ℕ) → length address ≡ 16 → ((i : ℕ) → slice_index address i < 256) → IsText Ipv6 (hex_groups_text (segments_of address)) address
ipv6_named address size are =
    (segments_of address, eight_named (segments_of address) (segments_number 8 address size) (segments_fit address are), octets_back 8 address size are)
