-- Writing pieces one after the other, and the steps of an address's text.
use Rattle.pim_addr.proofs.Words.{◌≡◌, ℕ, ◌+◌, ◌-◌, ◌*◌, ◌/◌, ◌%◌, ◌<◌, ◌≤◌, zero, suc, List, [], ◌∷◌, ◌++◌, length}
use Rattle.pim_addr.proofs.Words.{get_or, take, drop, map, decimal, refl, sym, ap, ◌∙◌, subst, arith, append_assoc}
use Rattle.pim_addr.proofs.Words.{length-append, decimal_digit, decimal_step, drop-drop, map_more, take_more}
use Rattle.pim_addr.proofs.Words.{length-map, length-take-le, join_with_byte, hex_pair, hex_groups, separator, Wrote}

-- two pieces, one behind the other
pub Wrote-more : {p q t u v : List ℕ} {a b c : ℕ} → Wrote p a t b u → Wrote q b u c v → Wrote (p ++ q) a t c v
Wrote-more {p} {q} {t} {u} {v} {a} {b} {c} first second =
    let far : c ≡ b + length q = second.up_to in
    record {
      up_to = omega (arith, first.up_to, second.up_to, length-append p q);
      written = second.written ∙ ap (λ l. l ++ q) first.written ∙ append_assoc (take a t) p q;
      behind = second.behind ∙ ap (λ n. drop n u) far ∙ sym (drop-drop (length q) b u) ∙ ap (drop (length q)) first.behind
          ∙ drop-drop (length q) b t ∙ ap (λ n. drop n t) (sym far);
    }

pub Wrote-is : {p q t u : List ℕ} {a b : ℕ} → p ≡ q → Wrote p a t b u → Wrote q a t b u
Wrote-is {p} {q} {t} {u} {a} {b} e w = subst (λ l. Wrote l a t b u) e w

-- ---- decimals

pub decimal_two : (n : ℕ) → 10 ≤ n → n < 100 → decimal n ≡ (48 + n / 10) ∷ (48 + n % 10) ∷ []
decimal_two n low high = decimal_step n low (omega arith) ∙ ap (λ l. l ++ (48 + n % 10) ∷ []) (decimal_digit (n / 10) (omega arith))

pub decimal_three : (n : ℕ) → 100 ≤ n → n < 1000 → decimal n ≡ (48 + n / 100) ∷ (48 + n / 10 % 10) ∷ (48 + n % 10) ∷ []
decimal_three n low high =
    decimal_step n (omega arith) (omega arith) ∙ ap (λ l. l ++ (48 + n % 10) ∷ []) (decimal_two (n / 10) (omega arith) (omega arith))
    ∙ ap (λ m. (48 + m) ∷ (48 + n / 10 % 10) ∷ (48 + n % 10) ∷ []) (omega arith)

-- ---- joining

pub joined_more : (c : ℕ) (ps : List (List ℕ)) (p : List ℕ) → join_with_byte c (ps ++ p ∷ []) ≡ (join_with_byte c ps ++ separator c (length ps)) ++ p
joined_more c [] p = refl
joined_more c (x ∷ []) p = sym (append_assoc x (c ∷ []) p)
joined_more c (x ∷ y ∷ ps) p =
    ap (λ l. x ++ (c ∷ l)) (joined_more c (y ∷ ps) p) ∙ sym (append_assoc x (c ∷ join_with_byte c (y ∷ ps) ++ c ∷ []) p)
    ∙ ap (λ l. l ++ p) (sym (append_assoc x (c ∷ join_with_byte c (y ∷ ps)) (c ∷ [])))

pub dotted_more : (xs : List ℕ) (i : ℕ) → i < length xs
    → join_with_byte 46 (map decimal (take (i + 1) xs)) ≡ (join_with_byte 46 (map decimal (take i xs)) ++ separator 46 i) ++ decimal (get_or xs i 0)
dotted_more xs i inside =
    let count : length (map decimal (take i xs)) ≡ i = length-map (take i xs) decimal ∙ length-take-le i xs (omega arith) in
    ap (join_with_byte 46) (map_more decimal xs i 0 inside) ∙ joined_more 46 (map decimal (take i xs)) (decimal (get_or xs i 0))
    ∙ ap (λ n. (join_with_byte 46 (map decimal (take i xs)) ++ separator 46 n) ++ decimal (get_or xs i 0)) count

-- ---- groups

pub hex_groups-push : (k : ℕ) (xs : List ℕ) (high low : ℕ) → length xs ≡ 2 * k → hex_groups (xs ++ high ∷ low ∷ []) ≡ hex_groups xs ++ (hex_pair high ++ hex_pair low) ∷ []
hex_groups-push k [] high low even = refl
hex_groups-push k (x ∷ []) high low even = absurd (omega arith)
hex_groups-push k (x ∷ y ∷ xs) high low even = ap (λ l. (hex_pair x ++ hex_pair y) ∷ l) (hex_groups-push (k - 1) xs high low (omega arith))

pub length-hex_groups : (k : ℕ) (xs : List ℕ) → length xs ≡ 2 * k → length (hex_groups xs) ≡ k
length-hex_groups k [] even = omega arith
length-hex_groups k (x ∷ []) even = absurd (omega arith)
length-hex_groups k (x ∷ y ∷ xs) even = let rest : length (hex_groups xs) ≡ k - 1 = length-hex_groups (k - 1) xs (omega arith) in omega arith

pub groups_more : (xs : List ℕ) (i : ℕ) → 2 * i + 1 < length xs
    → join_with_byte 58 (hex_groups (take (2 * (i + 1)) xs))
    ≡ ((join_with_byte 58 (hex_groups (take (2 * i) xs)) ++ separator 58 i) ++ hex_pair (get_or xs (2 * i) 0)) ++ hex_pair (get_or xs (2 * i + 1) 0)
groups_more xs i inside =
    let front = take (2 * i) xs in
    let high = get_or xs (2 * i) 0 in
    let low = get_or xs (2 * i + 1) 0 in
    let even : length front ≡ 2 * i = length-take-le (2 * i) xs (omega arith) in
    let far : 2 * (i + 1) ≡ 2 * i + 1 + 1 = omega arith in
    let bytes : take (2 * (i + 1)) xs ≡ front ++ high ∷ low ∷ [] =
    ap (λ n. take n xs) far ∙ take_more xs (2 * i + 1) 0 inside ∙ ap (λ l. l ++ low ∷ []) (take_more xs (2 * i) 0 (omega arith)) ∙ append_assoc front (high ∷ []) (low ∷ []) in
    ap (λ l. join_with_byte 58 (hex_groups l)) bytes ∙ ap (join_with_byte 58) (hex_groups-push i front high low even)
    ∙ joined_more 58 (hex_groups front) (hex_pair high ++ hex_pair low)
    ∙ ap (λ n. (join_with_byte 58 (hex_groups front) ++ separator 58 n) ++ (hex_pair high ++ hex_pair low)) (length-hex_groups i front even)
    ∙ sym (append_assoc (join_with_byte 58 (hex_groups front) ++ separator 58 i) (hex_pair high) (hex_pair low))

pub length-separator-le : (byte index : ℕ) → length (separator byte index) ≤ 1
length-separator-le byte zero = omega arith
length-separator-le byte (suc index) = omega arith
