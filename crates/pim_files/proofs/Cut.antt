-- A text that is cut at its line feeds.
use Rattle.pim_files.proofs.Words.{◌≡◌, ◌∙◌, sym, ap, refl, ℕ, ◌+◌, ◌≤◌, Bool, true, false, cond, List, [], ◌∷◌, Some, None}
use Rattle.pim_files.proofs.Words.{length, take, drop, ltb, arith, add-one, position, position_or_len, slice_split, onto_first}
use Rattle.pim_files.proofs.Words.{position_or_len_is, slice_split-cons_no, slice_split_first, ltb-false}
use Rattle.std.proofs.Math.Seq.{drop-cons}
use Rattle.std.proofs.lemmas.List.Quantifiers.{position-Some}

-- nothing passes the test, so there is one part
split_whole : {X : Type 0} (p : X → Bool) (xs : List X) → length xs ≤ position_or_len p xs → slice_split p xs ≡ xs ∷ []
split_whole p [] past = refl
split_whole p (x ∷ xs) past = at (p x) refl (λ past. split_whole p xs past)
  where
    at : (t : Bool) → p x ≡ t → (length xs ≤ position_or_len p xs → slice_split p xs ≡ xs ∷ []) → slice_split p (x ∷ xs) ≡ (x ∷ xs) ∷ []
    at true is others = let none : position_or_len p (x ∷ xs) ≡ 0 = rw is refl in absurd (omega (arith, none, past))
    at false is others =
        let more : position_or_len p (x ∷ xs) ≡ 1 + position_or_len p xs = rw is refl in
        slice_split-cons_no p x xs is ∙ ap (onto_first x) (others (omega (arith, more, past)))

pub no_place : {X : Type 0} (p : X → Bool) (xs : List X) → position p xs ≡ None → slice_split p xs ≡ xs ∷ []
no_place p xs none = at (ltb (position_or_len p xs) (length xs)) refl none
  where
    at : (t : Bool) → ltb (position_or_len p xs) (length xs) ≡ t → cond t (Some (position_or_len p xs)) None ≡ None → slice_split p xs ≡ xs ∷ []
    at true is e = absurd cc
    at false is e = split_whole p xs (ltb-false (position_or_len p xs) (length xs) is)

pub at_place : {X : Type 0} (p : X → Bool) (xs : List X) (place : ℕ) (x : X) (left : List X) → position p xs ≡ Some place → drop place xs ≡ x ∷ left → slice_split p xs ≡ take place xs ∷ slice_split p left
at_place p xs place x left found rest =
    let here = position-Some p xs place x found in
    let at : position_or_len p xs ≡ place = position_or_len_is p xs place x (omega (arith, here.0)) (λ k h. here.2 k h) (λ h. here.1) in
    let behind : drop (place + 1) xs ≡ left = ap (λ n. drop n xs) (add-one place) ∙ ap (drop 1) (sym (drop-cons xs place x here.0) ∙ rest) in
    slice_split_first p xs x (omega (arith, at, here.0)) ∙ rw at (rw behind refl)
