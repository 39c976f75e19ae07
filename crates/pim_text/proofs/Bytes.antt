-- The bytes of addresses and decimals: each is ASCII and above the space.
use Rattle.pim_text.proofs.Words.{◌≡◌, sym, ap, refl, subst, inl, inr, ℕ, zero, suc, ◌^◌, ◌<◌, ◌≤◌, Bool, true, false}
use Rattle.pim_text.proofs.Words.{List, [], ◌∷◌, ◌++◌, codes, decimal, arith, ltb, lit<, lit≤, AllByRecursion, IsAscii}
use Rattle.pim_text.proofs.Words.{IsUtf8, AllDigits, le-ltb, ltb-true, ltb-false, false≢true, decimal_is_IsNumeral}
use Rattle.pim_text.proofs.Words.{IsText, Ipv4, Ipv6, AnyAddress, V4, V6, Names, IsField}
use Rattle.std.specs.Char.{digit_value}
use Rattle.std.specs.Net.Grammar.{IsGroupsAfter}
use Rattle.std.proofs.lemmas.Str.{IsUtf8-from_ascii}

module _ (P : ℕ → Type 0) where
  pub all_append : (xs ys : List ℕ) → AllByRecursion P xs → AllByRecursion P ys → AllByRecursion P (xs ++ ys)
  all_append [] ys p q = q
  all_append (x ∷ xs) ys p q = (p.0, all_append xs ys p.1 q)

  all_front : (xs ys : List ℕ) → AllByRecursion P (xs ++ ys) → AllByRecursion P xs
  all_front [] ys p = tt
  all_front (x ∷ xs) ys p = (p.0, all_front xs ys p.1)

  all_back : (xs ys : List ℕ) → AllByRecursion P (xs ++ ys) → AllByRecursion P ys
  all_back [] ys p = p
  all_back (x ∷ xs) ys p = all_back xs ys p.1

  all_weaker : (Q : ℕ → Type 0) → ((x : ℕ) → P x → Q x) → (xs : List ℕ) → AllByRecursion P xs → AllByRecursion Q xs
  all_weaker Q weaker [] p = tt
  all_weaker Q weaker (x ∷ xs) p = (weaker x p.0, all_weaker Q weaker xs p.1)

  digits_are : ((c : ℕ) → digit_value c < 16 → P c) → (radix : ℕ) (ds : List ℕ) → radix ≤ 16 → AllDigits radix ds → AllByRecursion P ds
  digits_are digit radix [] h p = tt
  digits_are digit radix (c ∷ ds) h p = (digit c (omega (arith, p.0, h)), digits_are digit radix ds h p.1)

  decimal_is : ((c : ℕ) → digit_value c < 16 → P c) → (n : ℕ) → n < 2 ^ 64 → AllByRecursion P (decimal n)
  decimal_is digit n h = digits_are digit 10 (decimal n) (lit≤ tt) (decimal_is_IsNumeral n h).0.1

  groups_after : ((c : ℕ) → digit_value c < 16 → P c) → P 58 → (lead text segments : List ℕ) → AllByRecursion P lead → IsGroupsAfter false lead text segments → AllByRecursion P text
  groups_after digit colon lead text [] solid is = subst (AllByRecursion P) (sym is) tt
  groups_after digit colon lead text (s ∷ segments) solid (inl (group, rest, spelled, is_group, others)) =
      subst (AllByRecursion P) (sym spelled)
      (all_append (lead ++ group) rest (all_append lead group solid (digits_are digit 16 group (lit≤ tt) is_group.0.0.1)) (groups_after digit colon (codes ":") rest segments (colon, tt) others))
  groups_after digit colon lead text (s ∷ segments) solid (inr (last, octets, never, spelled, is, same)) = absurd (false≢true never)

  v6_is : ((c : ℕ) → digit_value c < 16 → P c) → P 58 → (text address : List ℕ) → IsText Ipv6 text address → AllByRecursion P text
  v6_is digit colon text address (groups, inl (is, count), value) = groups_after digit colon [] text groups tt is
  v6_is digit colon text address (groups, inr elided, value) =
      subst (AllByRecursion P) (sym elided.spelled)
      (all_append _ _ (all_append _ _ (groups_after digit colon [] elided.left_text elided.left tt elided.left_groups) (colon, (colon, tt)))
      (groups_after digit colon [] elided.right_text elided.right tt elided.right_groups))

  v4_is : ((c : ℕ) → digit_value c < 16 → P c) → P 46 → (text address : List ℕ) → IsText Ipv4 text address → AllByRecursion P text
  v4_is digit dot text address is =
      let A = decimal_is digit is.a (omega (arith, is.fit.0)) in
      let B = decimal_is digit is.b (omega (arith, is.fit.1)) in
      let C = decimal_is digit is.c (omega (arith, is.fit.2)) in
      let D = decimal_is digit is.d (omega (arith, is.fit.3)) in
      subst (AllByRecursion P) (sym is.spelled) (all_append _ _ (all_append _ _ (all_append _ _ (all_append _ _ (all_append _ _ (all_append _ _ A (dot, tt)) B) (dot, tt)) C) (dot, tt)) D)

-- ---- ASCII above the space

pub record IsPlain (byte : ℕ) : Type 0 where
  pub ascii : byte < 128
  pub solid : 32 < byte

small : (c : ℕ) → digit_value c < 16 → c < 128
small c h = at (ltb c 123) refl
  where
    at : (t : Bool) → ltb c 123 ≡ t → c < 128
    at true is = omega (arith, ltb-true c 123 is)
    at false is =
        let high : 123 ≤ c = ltb-false c 123 is in
        let value : digit_value c ≡ 36 = rw (le-ltb c 48 (omega arith), le-ltb c 58 (omega arith), le-ltb c 65 (omega arith), le-ltb c 91 (omega arith), le-ltb c 97 (omega arith), le-ltb c 123 (omega arith)) refl in
        absurd (omega (arith, value, h))

great : (c : ℕ) → digit_value c < 16 → 32 < c
great c h = at (ltb c 48) refl
  where
    at : (t : Bool) → ltb c 48 ≡ t → 32 < c
    at true is = let value : digit_value c ≡ 36 = rw is refl in absurd (omega (arith, value, h))
    at false is = omega (arith, ltb-false c 48 is)

plain_digit : (c : ℕ) → digit_value c < 16 → IsPlain c
plain_digit c h = record { ascii = small c h; solid = great c h }

abbrev ArePlain : List ℕ → Type 0
ArePlain text = AllByRecursion IsPlain text

decimal_is_plain : (n : ℕ) → n < 2 ^ 64 → ArePlain (decimal n)
decimal_is_plain = decimal_is IsPlain plain_digit

named_is_plain : (text : List ℕ) (a : AnyAddress) → Names text a → ArePlain text
named_is_plain text (V4 address) is = v4_is IsPlain plain_digit (record { ascii = lit< tt; solid = lit< tt }) text address is
named_is_plain text (V6 address) is = v6_is IsPlain plain_digit (record { ascii = lit< tt; solid = lit< tt }) text address is

plain_is_field : (text : List ℕ) → ArePlain text → IsField text
plain_is_field text plain = all_weaker IsPlain (λ byte. 32 < byte) (λ byte is. is.solid) text plain

is_ascii : (text : List ℕ) → ArePlain text → IsAscii text
is_ascii [] all i = lit< tt
is_ascii (x ∷ xs) all zero = all.0.ascii
is_ascii (x ∷ xs) all (suc i) = is_ascii xs all.1 i

pub decimal_is_field : (n : ℕ) → n < 2 ^ 64 → IsField (decimal n)
decimal_is_field n h = plain_is_field (decimal n) (decimal_is_plain n h)

pub named_is_field : (text : List ℕ) (a : AnyAddress) → Names text a → IsField text
named_is_field text a is = plain_is_field text (named_is_plain text a is)

pub decimal_is_text : (n : ℕ) → n < 2 ^ 64 → IsUtf8 (decimal n)
decimal_is_text n h = IsUtf8-from_ascii (decimal n) (is_ascii (decimal n) (decimal_is_plain n h))

pub named_is_text : (text : List ℕ) (a : AnyAddress) → Names text a → IsUtf8 text
named_is_text text a is = IsUtf8-from_ascii text (is_ascii text (named_is_plain text a is))

-- ---- a text names addresses of one family alone

abbrev NoDot : ℕ → Type 0
NoDot byte = byte ≡ 46 → ⊥

no_dot_digit : (c : ℕ) → digit_value c < 16 → NoDot c
no_dot_digit c h e = let v : digit_value c ≡ 36 = ap digit_value e in omega (arith, v, h)

dots : (a b c d : List ℕ) → AllByRecursion NoDot ((((((a ++ (46 ∷ [])) ++ b) ++ (46 ∷ [])) ++ c) ++ (46 ∷ [])) ++ d) → ⊥
dots a b c d none =
    let five = all_front NoDot (((((a ++ (46 ∷ [])) ++ b) ++ (46 ∷ [])) ++ c) ++ (46 ∷ [])) d none in
    (all_back NoDot ((((a ++ (46 ∷ [])) ++ b) ++ (46 ∷ [])) ++ c) (46 ∷ []) five).0 refl

dotted_has_dot : (text address : List ℕ) → IsText Ipv4 text address → AllByRecursion NoDot text → ⊥
dotted_has_dot text address is none = dots (decimal is.a) (decimal is.b) (decimal is.c) (decimal is.d) (subst (AllByRecursion NoDot) is.spelled none)

pub not_both_families : (text one other : List ℕ) → IsText Ipv4 text one → IsText Ipv6 text other → ⊥
not_both_families text one other v4 v6 = dotted_has_dot text one v4 (v6_is NoDot no_dot_digit (λ e. absurd (omega (arith, e))) text other v6)
