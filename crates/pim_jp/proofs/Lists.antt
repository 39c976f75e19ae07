-- Which entries may stand in a set: told entry by entry, as the parts do, and of its two lists as a whole.
use Rattle.pim_jp.proofs.Words.{◌≡◌, ℕ, ◌+◌, ◌≤◌, true, false, cond, ◌&&◌, List, [], ◌∷◌, ◌++◌, refl, ⊎_elim, arith}
use Rattle.pim_jp.proofs.Words.{append_assoc, append-nil, list_any, cases_Bool, or_parts, or_from, and_left, and_right}
use Rattle.pim_jp.proofs.Words.{Entry, is_star, same_source, star_count, IsLegalSet, GroupSet}
use Rattle.pim_jp.proofs.EntryParts.{AllAllowed}

star_count-append : (xs ys : List (Entry (List ℕ))) → star_count (xs ++ ys) ≡ star_count xs + star_count ys
unfolding star_count
star_count-append [] ys = omega arith
star_count-append (x ∷ xs) ys = let others = star_count-append xs ys in omega (arith, others)

no_star : (xs : List (Entry (List ℕ))) → list_any is_star xs ≡ false → star_count xs ≡ 0
unfolding star_count
no_star [] h = refl
no_star (x ∷ xs) h =
    let parts = or_parts (is_star x) _ h in
    let others = no_star xs parts.1 in
    rw (parts.0, others) refl

star_count-one : (this : Entry (List ℕ)) → star_count (this ∷ []) ≡ cond (is_star this) 1 0
unfolding star_count
star_count-one this = omega arith

one_star_more : (earlier : List (Entry (List ℕ))) (this : Entry (List ℕ)) → star_count earlier ≤ 1 → is_star this && list_any is_star earlier ≡ false → star_count (earlier ++ this ∷ []) ≤ 1
one_star_more earlier this h first =
    let sum = star_count-append earlier (this ∷ []) in
    let one = star_count-one this in
    ⊎_elim
    (λ (star : is_star this ≡ true). let none = no_star earlier (rw star at first) in let one' : star_count (this ∷ []) ≡ 1 = rw star at one in omega arith)
    (λ (other : is_star this ≡ false). let one' : star_count (this ∷ []) ≡ 0 = rw other at one in omega arith)
    (cases_Bool (is_star this))

one_star : (earlier other entries : List (Entry (List ℕ))) → star_count earlier ≤ 1 → AllAllowed earlier other entries → star_count (earlier ++ entries) ≤ 1
one_star earlier other [] h allowed = rw (append-nil earlier) h
one_star earlier other (this ∷ entries) h allowed = rw (← append_assoc earlier (this ∷ []) entries) (one_star (earlier ++ this ∷ []) other entries (one_star_more earlier this h allowed.0.0) allowed.1)

none_twice : (earlier other entries : List (Entry (List ℕ))) → AllAllowed earlier other entries → list_any (λ this. list_any (same_source this) other) entries ≡ false
none_twice earlier other [] allowed = refl
none_twice earlier other (this ∷ entries) allowed = or_from _ _ allowed.0.1 (none_twice (earlier ++ this ∷ []) other entries allowed.1)

pub legal_from_allowed : (set : GroupSet) → AllAllowed [] [] set.joined → AllAllowed set.joined set.joined set.pruned → IsLegalSet set
unfolding star_count
legal_from_allowed set joined pruned =
    (one_star set.joined set.joined set.pruned (one_star [] [] set.joined (omega arith) joined) pruned, none_twice set.joined set.joined set.pruned pruned)

-- ---- and back

some_star : (xs : List (Entry (List ℕ))) → list_any is_star xs ≡ true → 1 ≤ star_count xs
unfolding star_count
some_star [] h = absurd cc
some_star (x ∷ xs) h =
    ⊎_elim
    (λ (star : is_star x ≡ true). rw star (omega arith))
    (λ (other : is_star x ≡ false). let others = some_star xs (rw other at h) in omega arith)
    (cases_Bool (is_star x))

first_star : (earlier entries : List (Entry (List ℕ))) (this : Entry (List ℕ)) → star_count (earlier ++ this ∷ entries) ≤ 1 → is_star this && list_any is_star earlier ≡ false
unfolding star_count
first_star earlier entries this h =
    let sum = star_count-append earlier (this ∷ entries) in
    ⊎_elim
    (λ (star : is_star this ≡ true).
    ⊎_elim
    (λ (some : list_any is_star earlier ≡ true).
    let least = some_star earlier some in
    let one : star_count (this ∷ entries) ≡ 1 + star_count entries = rw star refl in
    absurd (omega arith))
    (λ (none : list_any is_star earlier ≡ false). and_right (is_star this) _ none)
    (cases_Bool (list_any is_star earlier)))
    (λ (other : is_star this ≡ false). and_left _ _ other)
    (cases_Bool (is_star this))

all_allowed : (earlier other entries : List (Entry (List ℕ))) → star_count (earlier ++ entries) ≤ 1 → list_any (λ this. list_any (same_source this) other) entries ≡ false → AllAllowed earlier other entries
all_allowed earlier other [] h apart = tt
all_allowed earlier other (this ∷ entries) h apart =
    let parts = or_parts (list_any (same_source this) other) _ apart in
    ((first_star earlier entries this h, parts.0), all_allowed (earlier ++ this ∷ []) other entries (rw (append_assoc earlier (this ∷ []) entries) h) parts.1)

in_no_list : (entries : List (Entry (List ℕ))) → list_any (λ this. list_any (same_source this) []) entries ≡ false
in_no_list [] = refl
in_no_list (this ∷ entries) = in_no_list entries

pub allowed_from_legal : (set : GroupSet) → IsLegalSet set → AllAllowed [] [] set.joined × AllAllowed set.joined set.joined set.pruned
allowed_from_legal set legal =
    let sum = star_count-append set.joined set.pruned in
    (all_allowed [] [] set.joined (omega (arith, legal.0)) (in_no_list set.joined), all_allowed set.joined set.joined set.pruned legal.0 legal.1)
