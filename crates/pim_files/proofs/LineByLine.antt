-- Lines that are added one after another, to rows or to joins.
use Rattle.std.proofs.Common.{◌≡◌, ◌∙◌, sym, ap, subst, ℕ, ◌+◌, ◌<◌, ◌≤◌, List, [], ◌∷◌, ◌++◌, length, take, arith, append_assoc, length-append, ◌==◌}
use Rattle.pim_files.proofs.Words.{length-slice_split, count_by-le-length, take-append_seam, lines_of, file_limit}

module _ {S : Type 0} (Adds : List (List ℕ) → S → S → Type 0) where
  -- The lines in front were added, and so many those are.
  pub record Went (all left : List (List ℕ)) (old now : S) (number : ℕ) : Type 0 where
    pub front : List (List ℕ)
    pub cut : all ≡ front ++ left
    pub numbered : number ≡ length front
    pub added : Adds front old now

  pub one_further : (all : List (List ℕ)) (line : List ℕ) (left : List (List ℕ)) (old mid new : S) (number : ℕ) (went : Went all (line ∷ left) old mid number) → Adds (went.front ++ line ∷ []) old new
      → Went all left old new (number + 1)
  one_further all line left old mid new number went more = record {
    front = went.front ++ line ∷ [];
    cut = went.cut ∙ sym (append_assoc went.front (line ∷ []) left);
    numbered = ap (λ n. n + 1) went.numbered ∙ sym (length-append went.front (line ∷ []));
    added = more;
  }

  pub first_added : (all : List (List ℕ)) (line : List ℕ) (left : List (List ℕ)) (old now : S) (number : ℕ) (went : Went all (line ∷ left) old now number) → Adds (take (length went.front) all) old now
  first_added all line left old now number went =
      subst (λ (lines : List (List ℕ)). Adds lines old now) (sym (ap (take (length went.front)) went.cut ∙ take-append_seam went.front (line ∷ left))) went.added

  -- a file has no more lines than bytes, and one
  lines_within : (file : List ℕ) → length (lines_of file) ≤ length file + 1
  lines_within file = omega (arith, length-slice_split (λ byte. byte == 10) file, count_by-le-length (λ byte. byte == 10) file)

  pub number_is_small : (file : List ℕ) (line : List ℕ) (left : List (List ℕ)) (old now : S) (number : ℕ) → length file ≤ file_limit → Went (lines_of file) (line ∷ left) old now number → number < 1048577
  number_is_small file line left old now number small went =
      omega (arith, small, lines_within file, went.numbered, ap length went.cut, length-append went.front (line ∷ left))
