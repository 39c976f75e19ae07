-- The bytes of addresses and decimals: each is ASCII, and none is a space or a slash.
use Rattle.pim_files.proofs.Words.{◌≡◌, sym, ap, refl, subst, inl, inr, ℕ, zero, suc, ◌<◌, ◌≤◌, Bool, true, false, List}
use Rattle.pim_files.proofs.Words.{[], ◌∷◌, ◌++◌, length, get_or, codes, decimal, arith, ltb, lit<, lit≤}
use Rattle.pim_files.proofs.Words.{AllByRecursion, IsAscii, IsUtf8, AllDigits, le-ltb, ltb-true, ltb-false, false≢true}
use Rattle.pim_files.proofs.Words.{IsText, Row, AddressFamily, FileRow, Rp, Via, IsDecimal, Leads, IsRow}
use Rattle.std.specs.Char.{digit_value}
use Rattle.std.specs.Net.Grammar.{IsDotted, IsGroupsAfter}
use Rattle.std.proofs.lemmas.Fmt.{decimal_is_IsNumeral}
use Rattle.std.proofs.lemmas.Str.{IsUtf8-from_ascii}
use Rattle.pim_addr.specs.declared.family.AddressFamily.TheVariants.{Ipv4, Ipv6}

-- ---- all bytes of a text

module _ (P : ℕ → Type 0) where
  pub all_append : (xs ys : List ℕ) → AllByRecursion P xs → AllByRecursion P ys → AllByRecursion P (xs ++ ys)
  all_append [] ys p q = q
  all_append (x ∷ xs) ys p q = (p.0, all_append xs ys p.1 q)

  pub all_at : (xs : List ℕ) (i : ℕ) → AllByRecursion P xs → i < length xs → P (get_or xs i 0)
  all_at [] i p h = absurd (omega arith)
  all_at (x ∷ xs) zero p h = p.0
  all_at (x ∷ xs) (suc i) p h = all_at xs i p.1 (omega arith)

  pub all_weaker : (Q : ℕ → Type 0) → ((x : ℕ) → P x → Q x) → (xs : List ℕ) → AllByRecursion P xs → AllByRecursion Q xs
  all_weaker Q weaker [] p = tt
  all_weaker Q weaker (x ∷ xs) p = (weaker x p.0, all_weaker Q weaker xs p.1)

-- ASCII, and neither a space nor a slash
pub record IsSolid (byte : ℕ) : Type 0 where
  pub ascii : byte < 128
  pub no_space : byte ≡ 32 → ⊥
  pub no_slash : byte ≡ 47 → ⊥

abbrev pub AreSolid : List ℕ → Type 0
AreSolid text = AllByRecursion IsSolid text

small : (c : ℕ) → digit_value c < 16 → c < 128
small c h = at (ltb c 123) refl
  where
    at : (t : Bool) → ltb c 123 ≡ t → c < 128
    at true is = omega (arith, ltb-true c 123 is)
    at false is =
        let high : 123 ≤ c = ltb-false c 123 is in
        let value : digit_value c ≡ 36 = rw (le-ltb c 48 (omega arith), le-ltb c 58 (omega arith), le-ltb c 65 (omega arith), le-ltb c 91 (omega arith), le-ltb c 97 (omega arith), le-ltb c 123 (omega arith)) refl in
        absurd (omega (arith, value, h))

digit : (c : ℕ) → digit_value c < 16 → IsSolid c
digit c h = record {
  ascii = small c h;
  no_space = λ e. let v : digit_value c ≡ 36 = ap digit_value e in omega (arith, v, h);
  no_slash = λ e. let v : digit_value c ≡ 36 = ap digit_value e in omega (arith, v, h);
}

pub digits_are_solid : (radix : ℕ) (ds : List ℕ) → radix ≤ 16 → AllDigits radix ds → AreSolid ds
digits_are_solid radix [] h p = tt
digits_are_solid radix (c ∷ ds) h p = (digit c (omega (arith, p.0, h)), digits_are_solid radix ds h p.1)

dot : AreSolid (codes ".")
dot = (record { ascii = lit< tt; no_space = λ e. absurd cc; no_slash = λ e. absurd cc }, tt)

colon : AreSolid (codes ":")
colon = (record { ascii = lit< tt; no_space = λ e. absurd cc; no_slash = λ e. absurd cc }, tt)

colons : AreSolid (codes "::")
colons = (colon.0, colon)

then : (xs ys : List ℕ) → AreSolid xs → AreSolid ys → AreSolid (xs ++ ys)
then = all_append IsSolid

decimal_is_solid : (n : ℕ) → n < 256 → AreSolid (decimal n)
decimal_is_solid n h = digits_are_solid 10 (decimal n) (lit≤ tt) (decimal_is_IsNumeral n (omega arith)).0.1

dotted_is_solid : (text octets : List ℕ) → IsDotted text octets → AreSolid text
dotted_is_solid text octets is =
    let A = decimal_is_solid is.a is.fit.0 in
    let B = decimal_is_solid is.b is.fit.1 in
    let C = decimal_is_solid is.c is.fit.2 in
    let D = decimal_is_solid is.d is.fit.3 in
    subst AreSolid (sym is.spelled) (then _ _ (then _ _ (then _ _ (then _ _ (then _ _ (then _ _ A dot) B) dot) C) dot) D)

groups_after : (lead text segments : List ℕ) → AreSolid lead → IsGroupsAfter false lead text segments → AreSolid text
groups_after lead text [] solid is = subst AreSolid (sym is) tt
groups_after lead text (s ∷ segments) solid (inl (group, rest, spelled, is_group, others)) =
    subst AreSolid (sym spelled)
    (then (lead ++ group) rest (then lead group solid (digits_are_solid 16 group (lit≤ tt) is_group.0.0.1)) (groups_after (codes ":") rest segments colon others))
groups_after lead text (s ∷ segments) solid (inr (last, octets, never, spelled, is, same)) = absurd (false≢true never)

pub text_is_solid : (family : AddressFamily) (text address : List ℕ) → IsText family text address → AreSolid text
text_is_solid Ipv4 text address is = dotted_is_solid text address is
text_is_solid Ipv6 text address (groups, inl (is, count), value) = groups_after [] text groups tt is
text_is_solid Ipv6 text address (groups, inr elided, value) =
    subst AreSolid (sym elided.spelled)
    (then _ _ (then _ _ (groups_after [] elided.left_text elided.left tt elided.left_groups) colons) (groups_after [] elided.right_text elided.right tt elided.right_groups))

pub decimal_text_is_solid : (text : List ℕ) (number : ℕ) → IsDecimal text number → AreSolid text
decimal_text_is_solid text number is = digits_are_solid 10 text (lit≤ tt) is.digits.1

pub lacks_slash : (text : List ℕ) → AreSolid text → (i : ℕ) → i < length text → get_or text i 0 ≡ 47 → ⊥
lacks_slash text solid i h = (all_at IsSolid text i solid h).no_slash

pub lacks_space : (text : List ℕ) → AreSolid text → (i : ℕ) → i < length text → get_or text i 0 ≡ 32 → ⊥
lacks_space text solid i h = (all_at IsSolid text i solid h).no_space

-- ---- a line that spells a row is text

abbrev pub AreAscii : List ℕ → Type 0
AreAscii text = AllByRecursion (λ byte. byte < 128) text

pub solid_is_ascii : (text : List ℕ) → AreSolid text → AreAscii text
solid_is_ascii text solid = all_weaker IsSolid (λ byte. byte < 128) (λ byte is. is.ascii) text solid

is_ascii : (text : List ℕ) → AreAscii text → IsAscii text
is_ascii [] all i = lit< tt
is_ascii (x ∷ xs) all zero = all.0
is_ascii (x ∷ xs) all (suc i) = is_ascii xs all.1 i

pub ascii_append : (xs ys : List ℕ) → AreAscii xs → AreAscii ys → AreAscii (xs ++ ys)
ascii_append = all_append (λ byte. byte < 128)

pub ascii_is_text : (text : List ℕ) → AreAscii text → IsUtf8 text
ascii_is_text text all = IsUtf8-from_ascii text (is_ascii text all)

led_is_ascii : (family : AddressFamily) (text : List ℕ) (row : Row) → Leads family text row → AreAscii text
led_is_ascii family text row leads =
    let P = solid_is_ascii leads.prefix_text (text_is_solid family leads.prefix_text row.0.address leads.prefix) in
    let L = solid_is_ascii leads.length_text (decimal_text_is_solid leads.length_text row.0.bits leads.bits) in
    let T = solid_is_ascii leads.to_text (text_is_solid family leads.to_text row.1 leads.to) in
    subst AreAscii (sym leads.spelled) (ascii_append _ _ (ascii_append _ _ (ascii_append _ _ (ascii_append _ _ P (lit< tt, tt)) L) (lit< tt, tt)) T)

pub row_is_text : (family : AddressFamily) (line : List ℕ) (row : FileRow Row) → IsRow family line row → IsUtf8 line
row_is_text family line (Rp row) (text, spelled, leads) =
    ascii_is_text line (subst AreAscii (sym spelled) (ascii_append (codes "rp ") text (lit< tt, (lit< tt, (lit< tt, tt))) (led_is_ascii family text row leads)))
row_is_text family line (Via row) (text, spelled, leads) =
    ascii_is_text line (subst AreAscii (sym spelled) (ascii_append (codes "via ") text (lit< tt, (lit< tt, (lit< tt, (lit< tt, tt)))) (led_is_ascii family text row leads)))
