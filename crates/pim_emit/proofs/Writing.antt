-- Entries that are written one behind the other.
use Rattle.pim_emit.proofs.Words.{◌≡◌, ◌∙◌, ℕ, suc, ◌+◌, ◌*◌, ◌<◌, ◌≤◌, List, [], ◌∷◌, ◌++◌, length, take, drop, min}
use Rattle.pim_emit.proofs.Words.{get_or, sym, ap, subst, arith, append_assoc, ⊎_elim, add-one, flat_map, cases_lt}
use Rattle.pim_emit.proofs.Words.{flat_map-append, take_more, append-nil, drop_all, length-drop, drop-cons}

-- ---- a list cut behind its first so many items

pub record IsCutBefore {A : Type 0} (n : ℕ) (xs : List A) (x : A) (rest : List A) : Type 0 where
  pub within : n < length xs
  pub front : take (n + 1) xs ≡ take n xs ++ x ∷ []
  pub behind : drop (n + 1) xs ≡ rest

pub cut_before : {A : Type 0} (n : ℕ) (xs : List A) (x : A) (rest : List A) → drop n xs ≡ x ∷ rest → IsCutBefore n xs x rest
cut_before n xs x rest is =
    ⊎_elim
    (λ (below : n < length xs).
    let both : x ∷ rest ≡ get_or xs n x ∷ drop (suc n) xs = sym is ∙ drop-cons xs n x below in
    let first : x ≡ get_or xs n x = cc in
    let others : rest ≡ drop (suc n) xs = cc in
    record {
      within = below;
      front = take_more xs n x below ∙ ap (λ y. take n xs ++ y ∷ []) (sym first);
      behind = rw (add-one n) (sym others);
    })
    (λ (past : length xs ≤ n). absurd (let clash : [] ≡ x ∷ rest = sym (drop_all n xs past) ∙ is in cc))
    (cases_lt n (length xs))

pub all_cut : {A : Type 0} (n : ℕ) (xs : List A) → drop n xs ≡ [] → n ≤ length xs → n ≡ length xs
all_cut n xs none within = omega (arith, ap length none, length-drop n xs)

pub the_most : (n most size : ℕ) → n ≤ most → n ≤ size → most ≤ n → n ≡ min most size
the_most n most size few within many = omega arith

pub the_whole : (n most size : ℕ) → n ≤ most → n ≡ size → n ≡ min most size
the_whole n most size few whole = omega arith

-- ---- entries

module _ (entry : List ℕ → List ℕ) (size at : ℕ) (before : List ℕ) where
  -- one more of the first so many
  pub one_more : (count : ℕ) (all : List (List ℕ)) (x : List ℕ) (rest : List (List ℕ)) (old new : List ℕ) → drop count all ≡ x ∷ rest
      → take (at + count * size) old ≡ before ++ flat_map entry (take count all)
      → take (at + count * size + size) new ≡ take (at + count * size) old ++ entry x
      → take (at + (count + 1) * size) new ≡ before ++ flat_map entry (take (count + 1) all)
  one_more count all x rest old new is written more =
      let cut = cut_before count all x rest is in
      let place : at + (count + 1) * size ≡ at + count * size + size = grind arith in
      let entries : flat_map entry (take (count + 1) all) ≡ flat_map entry (take count all) ++ entry x =
      ap (flat_map entry) cut.front ∙ flat_map-append entry (take count all) (x ∷ []) ∙ ap (λ l. flat_map entry (take count all) ++ l) (append-nil (entry x)) in
      ap (λ n. take n new) place ∙ more ∙ ap (λ l. l ++ entry x) written ∙ append_assoc before (flat_map entry (take count all)) (entry x) ∙ ap (λ l. before ++ l) (sym entries)

-- one more of those that are left
pub one_fewer : (entry : List ℕ → List ℕ) (size place : ℕ) (left : List (List ℕ)) (x : List ℕ) (rest : List (List ℕ)) (old new all : List ℕ) → left ≡ x ∷ rest
    → take place old ++ flat_map entry left ≡ all
    → take (place + size) new ≡ take place old ++ entry x
    → take (place + size) new ++ flat_map entry rest ≡ all
one_fewer entry size place left x rest old new all is written more =
    ap (λ l. l ++ flat_map entry rest) more ∙ append_assoc (take place old) (entry x) (flat_map entry rest)
    ∙ ap (λ l. take place old ++ flat_map entry l) (sym is) ∙ written

-- ---- the room of those that are left

pub room_of_one : (place size whole room : ℕ) (left : List (List ℕ)) (x : List ℕ) (rest : List (List ℕ)) → left ≡ x ∷ rest → place + length left * size ≡ whole → whole ≤ room → place + size ≤ room
room_of_one place size whole room left x rest is sum within =
    let one : place + length (x ∷ rest) * size ≡ whole = subst (λ (l : List (List ℕ)). place + length l * size ≡ whole) is sum in
    grind (arith, one, within)

pub room_of_fewer : (place size whole : ℕ) (left : List (List ℕ)) (x : List ℕ) (rest : List (List ℕ)) → left ≡ x ∷ rest → place + length left * size ≡ whole → place + size + length rest * size ≡ whole
room_of_fewer place size whole left x rest is sum =
    let one : place + length (x ∷ rest) * size ≡ whole = subst (λ (l : List (List ℕ)). place + length l * size ≡ whole) is sum in
    grind (arith, one)

pub fewer_left : (left : List (List ℕ)) (x : List ℕ) (rest : List (List ℕ)) → left ≡ x ∷ rest → length rest < length left
fewer_left left x rest is = omega (arith, ap length is)

pub no_more : (entry : List ℕ → List ℕ) (size place whole : ℕ) (left : List (List ℕ)) (old all : List ℕ) → left ≡ [] → place + length left * size ≡ whole → take place old ++ flat_map entry left ≡ all → take whole old ≡ all
no_more entry size place whole left old all none sum written =
    let ends : place + length {A = List ℕ} [] * size ≡ whole = subst (λ (l : List (List ℕ)). place + length l * size ≡ whole) none sum in
    let place_is : whole ≡ place = omega (arith, ends) in
    ap (λ n. take n old) place_is ∙ sym (append-nil (take place old)) ∙ ap (λ l. take place old ++ flat_map entry l) (sym none) ∙ written

-- where nothing is written yet, all is as it was
pub none_written : (at size : ℕ) (bytes : List ℕ) → take (at + 0 * size) bytes ≡ take at bytes ++ []
none_written at size bytes = let same : at + 0 * size ≡ at = omega arith in ap (λ n. take n bytes) same ∙ sym (append-nil (take at bytes))
