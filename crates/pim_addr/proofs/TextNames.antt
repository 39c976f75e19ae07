-- The texts of IPv6 addresses are those that std's grammar has without a dot; a text names one address, and what is
-- written of an address names it.
use Rattle.pim_addr.proofs.Words.{◌≡◌, ℕ, suc, map, ◌+◌, ◌-◌, ◌*◌, ◌/◌, ◌%◌, ◌<◌, inl, inr, Bool, true, false, ◌||◌, eqb, List}
use Rattle.pim_addr.proofs.Words.{[], ◌∷◌, ◌++◌, length, codes, decimal, slice_index, refl, sym, ap, ◌∙◌, subst, arith, lit≤}
use Rattle.pim_addr.proofs.Words.{append_assoc, append-nil, list_any, join_with_byte, or_parts, or_from, ne_eqb, AddressFamily}
use Rattle.pim_addr.proofs.Words.{Ipv4, Ipv6, address_length, hex_pair, hex_groups, address_text}
use Rattle.std.specs.Char.{digit_value, digit_char}
use Rattle.std.specs.Str.Parse.{AllDigits}
use Rattle.std.specs.Net.Addr.{octets_of, segments_of}
use Rattle.std.specs.Net.Grammar.{IsDotted, IsGroup, IsGroupsAfter, IsGroups, IsColonHex, IsIpv4Text, IsIpv6Text}
use Rattle.std.specs.declared.net.ipv4_addr.Ipv4Addr.{Ipv4Addr}
use Rattle.std.specs.declared.net.ipv6_addr.Ipv6Addr.{Ipv6Addr}
use Rattle.std.proofs.lemmas.List.Folds.{list_any-append}
use Rattle.std.proofs.lemmas.Str.{digit_value-digit_char}
use Rattle.std.proofs.NetLemmas.Ipv4.{read_ipv4_complete}
use Rattle.std.proofs.NetLemmas.Ipv6.{read_ipv6_complete, EndsGroups-nil}
use Rattle.std.proofs.NetLemmas.Options.{same_parts}
use Rattle.pim_addr.specs.TextForms.{AreEightGroups, IsText}

-- ---- dots

abbrev pub has_dot : List ℕ → Bool
has_dot text = list_any (λ b. eqb b 46) text

has_dot-left : (xs ys : List ℕ) → has_dot xs ≡ true → has_dot (xs ++ ys) ≡ true
has_dot-left xs ys h = list_any-append (λ b. eqb b 46) xs ys ∙ ap (λ t. t || has_dot ys) h

has_dot-right : (xs ys : List ℕ) → has_dot ys ≡ true → has_dot (xs ++ ys) ≡ true
has_dot-right [] ys h = h
has_dot-right (x ∷ xs) ys h = rw (has_dot-right xs ys h) (or_true (eqb x 46))
  where
    or_true : (b : Bool) → (b || true) ≡ true
    or_true true = refl
    or_true false = refl

no_dot-parts : (xs ys : List ℕ) → has_dot (xs ++ ys) ≡ false → (has_dot xs ≡ false) × (has_dot ys ≡ false)
no_dot-parts xs ys h = or_parts (has_dot xs) (has_dot ys) (sym (list_any-append (λ b. eqb b 46) xs ys) ∙ h)

no_dot-append : (xs ys : List ℕ) → has_dot xs ≡ false → has_dot ys ≡ false → has_dot (xs ++ ys) ≡ false
no_dot-append xs ys h k = list_any-append (λ b. eqb b 46) xs ys ∙ or_from (has_dot xs) (has_dot ys) h k

dotted_has_dot : (text octets : List ℕ) → IsDotted text octets → has_dot text ≡ true
dotted_has_dot text octets h =
    let front : List ℕ = decimal h.a ++ codes "." ++ decimal h.b ++ codes "." ++ decimal h.c in
    ap has_dot h.spelled ∙ has_dot-left (front ++ codes ".") (decimal h.d) (has_dot-right front (codes ".") refl)

not_dot : (c : ℕ) → digit_value c < 16 → eqb c 46 ≡ false
not_dot c h = ne_eqb c 46 (λ e. absurd (let below : 36 < 16 = subst (λ n. digit_value n < 16) e h in omega arith))

digits_no_dot : (digits : List ℕ) → AllDigits 16 digits → has_dot digits ≡ false
digits_no_dot [] h = refl
digits_no_dot (c ∷ digits) h = or_from (eqb c 46) (has_dot digits) (not_dot c h.0) (digits_no_dot digits h.1)

-- ---- groups with a dotted part and without

undotted : (lead text groups : List ℕ) → IsGroupsAfter true lead text groups → has_dot text ≡ false → IsGroupsAfter false lead text groups
undotted lead text [] h none = h
undotted lead text (group ∷ groups) (inl h) none =
    let parts = no_dot-parts (lead ++ h.0) h.1 (ap has_dot (sym h.2) ∙ none) in
    inl (h.0, h.1, h.2, h.3, undotted (codes ":") h.1 groups h.4 parts.1)
undotted lead text (group ∷ groups) (inr h) none =
    let some : has_dot text ≡ true = ap has_dot h.3 ∙ has_dot-right lead h.0 (dotted_has_dot h.0 h.1 h.4) in
    cc

also_dotted : (lead text groups : List ℕ) → IsGroupsAfter false lead text groups → IsGroupsAfter true lead text groups
also_dotted lead text [] h = h
also_dotted lead text (group ∷ groups) (inl h) = inl (h.0, h.1, h.2, h.3, also_dotted (codes ":") h.1 groups h.4)
also_dotted lead text (group ∷ groups) (inr h) = let never : false ≡ true = h.2 in absurd cc

groups_no_dot : (lead text groups : List ℕ) → has_dot lead ≡ false → IsGroupsAfter false lead text groups → has_dot text ≡ false
groups_no_dot lead text [] none h = ap has_dot h
groups_no_dot lead text (group ∷ groups) none (inl h) =
    ap has_dot h.2 ∙ no_dot-append (lead ++ h.0) h.1 (no_dot-append lead h.0 none (digits_no_dot h.0 h.3.0.0.1)) (groups_no_dot (codes ":") h.1 groups refl h.4)
groups_no_dot lead text (group ∷ groups) none (inr h) = let never : false ≡ true = h.2 in absurd cc

eight_from : (text groups : List ℕ) → IsColonHex text groups → has_dot text ≡ false → AreEightGroups text groups
eight_from text groups (inl h) none = inl (undotted [] text groups h.0 none, h.1)
eight_from text groups (inr h) none =
    let parts = no_dot-parts (h.head_text ++ codes "::") h.tail_text (ap has_dot (sym h.spelled) ∙ none) in
    inr (record {
      left_text = h.head_text;
      right_text = h.tail_text;
      left = h.head;
      right = h.tail;
      spelled = h.spelled;
      left_groups = h.head_groups;
      right_groups = undotted [] h.tail_text h.tail h.tail_groups parts.1;
      room = h.room;
      value = h.value;
    })

colon_hex_from : (text groups : List ℕ) → AreEightGroups text groups → IsColonHex text groups
colon_hex_from text groups (inl h) = inl (also_dotted [] text groups h.0, h.1)
colon_hex_from text groups (inr h) =
    inr (record {
      head_text = h.left_text;
      tail_text = h.right_text;
      head = h.left;
      tail = h.right;
      spelled = h.spelled;
      head_groups = h.left_groups;
      tail_groups = also_dotted [] h.right_text h.right h.right_groups;
      room = h.room;
      value = h.value;
    })

eight_no_dot : (text groups : List ℕ) → AreEightGroups text groups → has_dot text ≡ false
eight_no_dot text groups (inl h) = groups_no_dot [] text groups refl h.0
eight_no_dot text groups (inr h) =
    ap has_dot h.spelled
    ∙ no_dot-append (h.left_text ++ codes "::") h.right_text
    (no_dot-append h.left_text (codes "::") (groups_no_dot [] h.left_text h.left refl h.left_groups) refl)
    (groups_no_dot [] h.right_text h.right refl h.right_groups)

-- ---- what the reader answers

pub text_named : (text address groups : List ℕ) → IsColonHex text groups → has_dot text ≡ false → address ≡ octets_of groups → IsText Ipv6 text address
text_named text address groups h none e = (groups, eight_from text groups h none, e)

pub dotted_names_none : (text : List ℕ) → has_dot text ≡ true → (address : List ℕ) → IsText Ipv6 text address → ⊥
dotted_names_none text some address h = let none = eight_no_dot text h.0 h.1 in cc

pub unread_names_none : (text : List ℕ) → ((a : Ipv6Addr) → ¬ (IsIpv6Text text a)) → (address : List ℕ) → IsText Ipv6 text address → ⊥
unread_names_none text none address h = none (record { segments = h.0 }) (colon_hex_from text h.0 h.1)

pub unread_names_none_ipv4 : (text : List ℕ) → ((a : Ipv4Addr) → ¬ (IsIpv4Text text a)) → (address : List ℕ) → IsText Ipv4 text address → ⊥
unread_names_none_ipv4 text none address h = none (record { octets = address }) h

-- ---- one address

pub one_address : (family : AddressFamily) (text one other : List ℕ) → IsText family text one → IsText family text other → one ≡ other
one_address Ipv4 text one other h k =
    (same_parts _ _ _ _ (sym (read_ipv4_complete text one [] h (lit≤ tt)) ∙ read_ipv4_complete text other [] k (lit≤ tt))).0
one_address Ipv6 text one other h k =
    let same = same_parts _ _ _ _ (sym (read_ipv6_complete text h.0 [] (colon_hex_from text h.0 h.1) EndsGroups-nil) ∙ read_ipv6_complete text k.0 [] (colon_hex_from text k.0 k.1) EndsGroups-nil) in
    h.2 ∙ ap octets_of same.0 ∙ sym k.2

-- ---- what is written of an address names it

dotted_written : (address : List ℕ) → length address ≡ 4 → ((i : ℕ) → slice_index address i < 256) → IsDotted (join_with_byte 46 (map decimal address)) address
dotted_written [] size are = absurd (omega arith)
dotted_written (a ∷ []) size are = absurd (omega arith)
dotted_written (a ∷ b ∷ []) size are = absurd (omega arith)
dotted_written (a ∷ b ∷ c ∷ []) size are = absurd (omega arith)
dotted_written (a ∷ b ∷ c ∷ d ∷ []) size are = record {
  a = a;
  b = b;
  c = c;
  d = d;
  fit = (are 0, are 1, are 2, are 3);
  value = refl;
  spelled = simp append_assoc;
}
dotted_written (a ∷ b ∷ c ∷ d ∷ e ∷ rest) size are = absurd (omega arith)

-- two bytes in four digits are one group
pair_written : (high low : ℕ) → high < 256 → low < 256 → IsGroup (hex_pair high ++ hex_pair low) (high * 256 + low)
pair_written high low h l =
    let one : digit_value (digit_char (high / 16)) ≡ high / 16 = digit_value-digit_char (high / 16) (omega arith) in
    let two : digit_value (digit_char (high % 16)) ≡ high % 16 = digit_value-digit_char (high % 16) (omega arith) in
    let three : digit_value (digit_char (low / 16)) ≡ low / 16 = digit_value-digit_char (low / 16) (omega arith) in
    let four : digit_value (digit_char (low % 16)) ≡ low % 16 = digit_value-digit_char (low % 16) (omega arith) in
    (((omega arith, (omega (arith, one), (omega (arith, two), (omega (arith, three), (omega (arith, four), tt))))), rw (one, two, three, four) (omega arith)), omega arith)

-- the text behind a first group
abbrev behind : List (List ℕ) → List ℕ
behind [] = []
behind (group ∷ groups) = 58 ∷ join_with_byte 58 (group ∷ groups)

joined_behind : (group : List ℕ) (groups : List (List ℕ)) → join_with_byte 58 (group ∷ groups) ≡ group ++ behind groups
joined_behind group [] = sym (append-nil group)
joined_behind group (next ∷ groups) = refl

groups_behind : (bytes : List ℕ) → ((i : ℕ) → slice_index bytes i < 256) → IsGroupsAfter false (codes ":") (behind (hex_groups bytes)) (segments_of bytes)
groups_behind [] are = refl
groups_behind (high ∷ []) are = refl
groups_behind (high ∷ low ∷ bytes) are =
    inl (
      hex_pair high ++ hex_pair low,
      behind (hex_groups bytes),
      ap (λ (l : List ℕ). 58 ∷ l) (joined_behind (hex_pair high ++ hex_pair low) (hex_groups bytes)),
      pair_written high low (are 0) (are 1),
      groups_behind bytes (λ i. are (suc (suc i))),
    )

groups_written : (bytes : List ℕ) → ((i : ℕ) → slice_index bytes i < 256) → IsGroups false (join_with_byte 58 (hex_groups bytes)) (segments_of bytes)
groups_written [] are = refl
groups_written (high ∷ []) are = refl
groups_written (high ∷ low ∷ bytes) are =
    inl (
      hex_pair high ++ hex_pair low,
      behind (hex_groups bytes),
      joined_behind (hex_pair high ++ hex_pair low) (hex_groups bytes),
      pair_written high low (are 0) (are 1),
      groups_behind bytes (λ i. are (suc (suc i))),
    )

length-segments_of : (k : ℕ) (bytes : List ℕ) → length bytes ≡ 2 * k → length (segments_of bytes) ≡ k
length-segments_of k [] even = omega arith
length-segments_of k (x ∷ []) even = absurd (omega arith)
length-segments_of k (x ∷ y ∷ bytes) even = let rest : length (segments_of bytes) ≡ k - 1 = length-segments_of (k - 1) bytes (omega arith) in omega arith

octets_back : (k : ℕ) (bytes : List ℕ) → length bytes ≡ 2 * k → ((i : ℕ) → slice_index bytes i < 256) → bytes ≡ octets_of (segments_of bytes)
octets_back k [] even are = refl
octets_back k (x ∷ []) even are = absurd (omega arith)
octets_back k (x ∷ y ∷ bytes) even are =
    let low : y < 256 = are 1 in
    let first : (x * 256 + y) / 256 ≡ x = omega arith in
    let second : (x * 256 + y) % 256 ≡ y = omega arith in
    rw (first, second) (ap (λ (l : List ℕ). x ∷ y ∷ l) (octets_back (k - 1) bytes (omega arith) (λ i. are (suc (suc i)))))

pub text_written : (family : AddressFamily) (address : List ℕ) → length address ≡ address_length family → ((i : ℕ) → slice_index address i < 256) → IsText family (address_text family address) address
text_written Ipv4 address size are = dotted_written address size are
text_written Ipv6 address size are = (segments_of address, inl (groups_written address are, length-segments_of 8 address size), octets_back 8 address size are)
