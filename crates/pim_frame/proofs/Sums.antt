-- Folded sums, and sums of words part by part.
use Rattle.std.proofs.Common.{◌≡◌, ℕ, zero, suc, ◌+◌, ◌-◌, ◌*◌, ◌%◌, ◌<◌, ◌≤◌, ◌&&◌, nat_lt, nat_eq, List, [], ◌∷◌, ◌++◌, length, get_or, drop, refl, ap, ◌∙◌, arith, sym, length-append}
use Rattle.std.proofs.lemmas.List.{drop_more, drop_all}
use Rattle.std.proofs.lemmas.Bool.Decides.{nat_tests}
use Rattle.std.specs.Int.{w32, to_be_bytes}
use Rattle.pim_addr.specs.declared.family.AddressFamily.{AddressFamily}
use Rattle.pim_addr.specs.declared.family.AddressFamily.TheVariants.{Ipv6}
use Rattle.std.specs.Simd.{first_chunks}
use Rattle.pim_frame.specs.Folded.{folded, wide, wide_total}
use Rattle.pim_frame.specs.Sum.{words_sum, pseudo_header}

-- ---- one folded sum

pub folded_low : (n : ℕ) → n ≤ 65535 → folded n ≡ n
unfolding folded
folded_low zero h = refl
folded_low (suc n) h = omega arith

pub folded_high : (n : ℕ) → 65535 < n → n ≤ 131070 → folded n ≡ n - 65535
unfolding folded
folded_high zero h k = omega arith
folded_high (suc n) h k = omega arith

-- a sum may be folded before the rest is added
pub folded-add : (m n : ℕ) → folded (folded m + n) ≡ folded (m + n)
unfolding folded
folded-add zero n = refl
folded-add (suc m) n =
    let before : suc (m % 65535) + n ≡ suc (m % 65535 + n) = omega arith in
    let after : suc m + n ≡ suc (m + n) = omega arith in
    rw (before, after) (ap suc (omega arith))

-- what is folded to 65,535 is what is above 0 and divisible by 65,535
pub folded-right : (n : ℕ) → nat_eq (folded n) 65535 ≡ (nat_lt 0 n && nat_eq (n % 65535) 0)
unfolding folded
folded-right zero = refl
folded-right (suc n) = grind (arith, nat_tests)

-- ---- the sum of a list's words, part by part

pub words_sum-nil : words_sum [] ≡ 0
unfolding words_sum
words_sum-nil = refl

pub words_sum-more : (x y : ℕ) (rest : List ℕ) → words_sum (x ∷ y ∷ rest) ≡ 256 * x + y + words_sum rest
unfolding words_sum
words_sum-more x y rest = refl

-- whole words before any bytes
pub words_sum-append : (xs ys : List ℕ) → length xs % 2 ≡ 0 → words_sum (xs ++ ys) ≡ words_sum xs + words_sum ys
unfolding words_sum
words_sum-append [] ys h = omega arith
words_sum-append (x ∷ []) ys h = omega arith
words_sum-append (x ∷ y ∷ rest) ys h =
    let more = words_sum-append rest ys (omega arith) in
    omega arith

-- ---- wide words, of up to four bytes

-- 65,536 leaves 1 by 65,535
folded-wide : (high low : ℕ) → folded (high * 65536 + low) ≡ folded (high + low)
unfolding folded
folded-wide zero low = refl
folded-wide (suc high) low =
    let before : suc high * 65536 + low ≡ suc (65535 + high * 65536 + low) = omega arith in
    let after : suc high + low ≡ suc (high + low) = omega arith in
    rw (before, after) (ap suc (omega arith))

folded-bytes : (a b c d : ℕ) → folded (a * 16777216 + b * 65536 + c * 256 + d) ≡ folded (256 * a + b + (256 * c + d))
folded-bytes a b c d =
    let before : a * 16777216 + b * 65536 + c * 256 + d ≡ (256 * a + b) * 65536 + (256 * c + d) = omega arith in
    rw before (folded-wide (256 * a + b) (256 * c + d))

pub folded_one : (xs : List ℕ) → length xs ≡ 1 → folded (get_or xs 0 0 * 16777216 + 0 * 65536 + 0 * 256 + 0) ≡ folded (words_sum xs)
unfolding words_sum
folded_one [] h = omega arith
folded_one (x ∷ []) h = folded-bytes x 0 0 0 ∙ ap folded (omega arith)
folded_one (x ∷ y ∷ rest) h = omega arith

pub folded_two : (xs : List ℕ) → length xs ≡ 2 → folded (get_or xs 0 0 * 16777216 + get_or xs 1 0 * 65536 + 0 * 256 + 0) ≡ folded (words_sum xs)
unfolding words_sum
folded_two [] h = omega arith
folded_two (x ∷ []) h = omega arith
folded_two (x ∷ y ∷ []) h = folded-bytes x y 0 0 ∙ ap folded (omega arith)
folded_two (x ∷ y ∷ z ∷ rest) h = omega arith

pub folded_three : (xs : List ℕ) → length xs ≡ 3 → folded (get_or xs 0 0 * 16777216 + get_or xs 1 0 * 65536 + get_or xs 2 0 * 256 + 0) ≡ folded (words_sum xs)
unfolding words_sum
folded_three [] h = omega arith
folded_three (x ∷ []) h = omega arith
folded_three (x ∷ y ∷ []) h = omega arith
folded_three (x ∷ y ∷ z ∷ []) h = folded-bytes x y z 0 ∙ ap folded (omega arith)
folded_three (x ∷ y ∷ z ∷ w ∷ rest) h = omega arith

pub folded_four : (xs : List ℕ) → length xs ≡ 4 → folded (get_or xs 0 0 * 16777216 + get_or xs 1 0 * 65536 + get_or xs 2 0 * 256 + get_or xs 3 0) ≡ folded (words_sum xs)
unfolding words_sum
folded_four [] h = omega arith
folded_four (x ∷ []) h = omega arith
folded_four (x ∷ y ∷ []) h = omega arith
folded_four (x ∷ y ∷ z ∷ []) h = omega arith
folded_four (x ∷ y ∷ z ∷ w ∷ []) h = folded-bytes x y z w ∙ ap folded (omega arith)
folded_four (x ∷ y ∷ z ∷ w ∷ v ∷ rest) h = omega arith

-- a sum may be exchanged for one that folds alike
pub folded_alike : (start sum other : ℕ) → folded sum ≡ folded other → folded (start + sum) ≡ folded (start + other)
folded_alike start sum other alike =
    let one : folded (start + sum) ≡ folded (folded sum + start) = ap folded (omega arith) ∙ sym (folded-add sum start) in
    let two : folded (folded other + start) ≡ folded (start + other) = folded-add other start ∙ ap folded (omega arith) in
    one ∙ ap (λ n. folded (n + start)) alike ∙ two

-- one wide word more, of a list of them
pub wide_total_more : (words : List (List ℕ)) (i sum word : ℕ) (other : List ℕ) → i < length words → word ≡ wide (get_or words i other)
    → sum + word + wide_total (drop (i + 1) words) ≡ sum + wide_total (drop i words)
unfolding wide_total
wide_total_more words i sum word other within is =
    let split : drop i words ≡ get_or words i other ∷ drop (i + 1) words = drop_more words i other within in
    rw (split, is) (omega arith)

pub wide_total_all : (words : List (List ℕ)) (i : ℕ) → length words ≤ i → wide_total (drop i words) ≡ 0
unfolding wide_total
wide_total_all words i all = rw (drop_all i words all) refl

-- the wide words at the front of some bytes, and the words behind them
pub wide_total_folds : (k : ℕ) (xs : List ℕ) → k * 4 ≤ length xs
    → folded (wide_total (first_chunks 4 k xs) + words_sum (drop (k * 4) xs)) ≡ folded (words_sum xs)
unfolding wide_total words_sum
wide_total_folds zero xs h = ap folded (omega arith)
wide_total_folds (suc k) [] h = absurd (omega (arith, h))
wide_total_folds (suc k) (a ∷ []) h = absurd (omega (arith, h))
wide_total_folds (suc k) (a ∷ b ∷ []) h = absurd (omega (arith, h))
wide_total_folds (suc k) (a ∷ b ∷ c ∷ []) h = absurd (omega (arith, h))
wide_total_folds (suc k) (a ∷ b ∷ c ∷ d ∷ rest) h =
    let size : suc k * 4 ≡ suc (suc (suc (suc (k * 4)))) = omega arith in
    let word : ℕ = a * 16777216 + b * 65536 + c * 256 + d in
    let others : ℕ = wide_total (first_chunks 4 k rest) + words_sum (drop (k * 4) rest) in
    let more : folded others ≡ folded (words_sum rest) = wide_total_folds k rest (omega (arith, h)) in
    let parts : folded (word + others) ≡ folded (word + words_sum rest) = folded_alike word others (words_sum rest) more in
    let first : folded (word + words_sum rest) ≡ folded (256 * a + b + (256 * c + d) + words_sum rest) =
    ap folded (omega arith) ∙ folded_alike (words_sum rest) word (256 * a + b + (256 * c + d)) (folded-bytes a b c d) ∙ ap folded (omega arith) in
    rw size (ap folded (omega arith) ∙ parts ∙ first ∙ ap folded (omega arith))

-- nothing behind them
pub wide_total_whole : (k : ℕ) (xs : List ℕ) → k * 4 ≤ length xs → length xs ≤ k * 4 → folded (wide_total (first_chunks 4 k xs)) ≡ folded (words_sum xs)
wide_total_whole k xs h all =
    let none : words_sum (drop (k * 4) xs) ≡ 0 = rw (drop_all (k * 4) xs all) words_sum-nil in
    ap folded (omega (arith, none)) ∙ wide_total_folds k xs h

-- a number behind them that folds as the rest
pub wide_total_rest : (k : ℕ) (xs : List ℕ) (rest : ℕ) → k * 4 ≤ length xs → folded rest ≡ folded (words_sum (drop (k * 4) xs))
    → folded (wide_total (first_chunks 4 k xs) + rest) ≡ folded (words_sum xs)
wide_total_rest k xs rest h alike =
    folded_alike (wide_total (first_chunks 4 k xs)) rest (words_sum (drop (k * 4) xs)) alike ∙ wide_total_folds k xs h

-- ---- the accumulator

-- four sums go in, one after the other
folded-four : (a b c d : ℕ) → folded (folded (folded (folded (0 + a) + b) + c) + d) ≡ folded (a + b + c + d)
folded-four a b c d =
    rw (folded-add (0 + a) b, folded-add (0 + a + b) c, folded-add (0 + a + b + c) d) (ap folded (omega arith))

-- ---- the pseudo-header

pub pseudo_header_folded : (family : AddressFamily) (source destination : List ℕ) (n first second third : ℕ) → family ≡ Ipv6
    → length source % 2 ≡ 0 → length destination % 2 ≡ 0
    → first ≡ folded (0 + words_sum source) → second ≡ folded (first + words_sum destination) → third ≡ folded (second + words_sum (to_be_bytes w32 n))
    → folded (third + 103) ≡ folded (words_sum (pseudo_header family source destination n))
pseudo_header_folded family source destination n first second third is_v6 even_source even_destination one two three =
    let length_bytes = to_be_bytes w32 n in
    let protocol : List ℕ = 0 ∷ 0 ∷ 0 ∷ 103 ∷ [] in
    let addresses : words_sum (source ++ destination) ≡ words_sum source + words_sum destination = words_sum-append source destination even_source in
    let even_addresses : length (source ++ destination) % 2 ≡ 0 = rw length-append (omega arith) in
    let front : words_sum (source ++ destination ++ length_bytes) ≡ words_sum (source ++ destination) + words_sum length_bytes =
    words_sum-append (source ++ destination) length_bytes even_addresses in
    let even_front : length (source ++ destination ++ length_bytes) % 2 ≡ 0 = rw length-append (omega arith) in
    let whole : words_sum (source ++ destination ++ length_bytes ++ protocol) ≡ words_sum (source ++ destination ++ length_bytes) + words_sum protocol =
    words_sum-append (source ++ destination ++ length_bytes) protocol even_front in
    let last : words_sum protocol ≡ 103 = rw (words_sum-more, words_sum-more, words_sum-nil) refl in
    rw (is_v6, whole, front, addresses, last, three, two, one) (folded-four (words_sum source) (words_sum destination) (words_sum length_bytes) 103)
