-- The parts of a plan, from where each ends.
use Rattle.pim_form.proofs.Words.{◌≡◌, ◌∙◌, ℕ, ◌+◌, List, [], ◌∷◌, ◌++◌, length, take, refl, sym, ap, subst, arith}
use Rattle.pim_form.proofs.Words.{length-append, append_assoc, append-nil, drop-take, drop-append_seam}
use Rattle.pim_form.proofs.Words.{take-append_seam, flat_map, GroupPlace, between, parts_from, AreEnds, ends_from}

abbrev pub all_of : {A : Type 0} → List (List A) → List A
all_of parts = flat_map (λ part. part) parts

module _ {A : Type 0} where
  pub ends_more : (start : ℕ) (closed : List (List A)) (part : List A)
      → ends_from start (closed ++ part ∷ []) ≡ ends_from start closed ++ (start + length (all_of (closed ++ part ∷ []))) ∷ []
  unfolding ends_from
  ends_more start [] part = ap (λ n. (start + n) ∷ []) (sym (ap length (append-nil part)))
  ends_more start (one ∷ closed) part =
      let others = ends_more (start + length one) closed part in
      let long : (start + length one) + length (all_of (closed ++ part ∷ [])) ≡ start + length (one ++ all_of (closed ++ part ∷ [])) =
      omega (arith, length-append one (all_of (closed ++ part ∷ []))) in
      ap (λ (ends : List ℕ). (start + length one) ∷ ends) (others ∙ ap (λ n. ends_from (start + length one) closed ++ n ∷ []) long)

  pub ends_are : (start : ℕ) (closed : List (List A)) → AreEnds start (start + length (all_of closed)) (ends_from start closed)
  unfolding ends_from AreEnds
  ends_are start [] = omega arith
  ends_are start (part ∷ closed) =
      let long : (start + length part) + length (all_of closed) ≡ start + length (part ++ all_of closed) = omega (arith, length-append part (all_of closed)) in
      (omega arith, omega arith, subst (λ last. AreEnds (start + length part) last (ends_from (start + length part) closed)) long (ends_are (start + length part) closed))

  part_between : (before part behind : List A) → between (length before) (length before + length part) (before ++ (part ++ behind)) ≡ part
  part_between before part behind =
      drop-take (length before) (length part) (before ++ (part ++ behind))
      ∙ ap (take (length part)) (drop-append_seam before (part ++ behind))
      ∙ take-append_seam part behind

pub parts_are : {A : Type 0} (before : List (GroupPlace A)) (closed : List (List (GroupPlace A))) → parts_from (length before) (ends_from (length before) closed) (before ++ all_of closed) ≡ closed
unfolding ends_from parts_from
parts_are before [] = refl
parts_are {A} before (part ∷ closed) =
    let here = part_between before part (all_of closed) in
    let others = parts_are (before ++ part) closed in
    let long : length (before ++ part) ≡ length before + length part = length-append before part in
    let joined : (before ++ part) ++ all_of closed ≡ before ++ (part ++ all_of closed) = append_assoc before part (all_of closed) in
    let others' = subst (λ n. parts_from n (ends_from n closed) ((before ++ part) ++ all_of closed) ≡ closed) long others in
    let others'' = subst (λ (pieces : List (GroupPlace A)). parts_from (length before + length part) (ends_from (length before + length part) closed) pieces ≡ closed) joined others' in
    λ i. here i ∷ others'' i
