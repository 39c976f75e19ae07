-- The pieces of `ADDRESS/LENGTH`.
use Rattle.pim_request.proofs.Cited.{◌≡◌, ◌==◌, ◌∙◌, sym, ap, subst, refl, ℕ, ◌<◌, ◌≤◌, List, [], ◌∷◌, decimal, arith}
use Rattle.pim_request.proofs.Cited.{Bor, digit_value, join_with_byte, onto_first, ne_eqb, decimal_is_IsNumeral}
use Rattle.pim_request.proofs.Cited.{slice_split-cons_no, join_with_byte-slice_split, AnyAddress, Names, Word, Address}
use Rattle.pim_request.proofs.Cited.{Slot, prefix, digits, HasAddress, most, pieces_of, IsPrefix, IsSlotFault}
use Rattle.std.specs.Str.Parse.{AllDigits}

not_slash : (c : ℕ) → digit_value c < 10 → c ≡ 47 → ⊥
not_slash c h is = let v : digit_value c ≡ 36 = ap digit_value is in omega (arith, v, h)

whole : (text : List ℕ) → AllDigits 10 text → pieces_of 47 text ≡ text ∷ []
whole [] all = refl
whole (c ∷ text) all =
    slice_split-cons_no (λ byte. byte == 47) c text (ne_eqb c 47 (not_slash c all.0)) ∙ ap (onto_first c) (whole text all.1)

one_piece : (n : ℕ) → n ≤ most → pieces_of 47 (decimal n) ≡ decimal n ∷ []
one_piece n small = whole (decimal n) (decimal_is_IsNumeral n (omega arith)).0.1

back : (text piece : List ℕ) → pieces_of 47 text ≡ piece ∷ [] → text ≡ piece
back text piece is = sym (join_with_byte-slice_split 47 text) ∙ ap (join_with_byte 47) is

head_of : {X : Type 0} (x y : X) (xs ys : List X) → x ∷ xs ≡ y ∷ ys → x ≡ y
head_of x y xs ys same = cc

tail_of : {X : Type 0} (x y : X) (xs ys : List X) → x ∷ xs ≡ y ∷ ys → xs ≡ ys
tail_of x y xs ys same = cc

module _ (word text behind : List ℕ) (cut : pieces_of 47 word ≡ text ∷ pieces_of 47 behind) where
  pub is_prefix : (n : ℕ) → n ≤ most → behind ≡ decimal n → IsPrefix text n word
  is_prefix n small is = (small, cut ∙ ap (λ (b : List (List ℕ)). text ∷ b) (ap (pieces_of 47) is ∙ one_piece n small))

  same_length : (other : List ℕ) (n : ℕ) → IsPrefix other n word → behind ≡ decimal n
  same_length other n is = back behind (decimal n) (tail_of text other (pieces_of 47 behind) (decimal n ∷ []) (sym cut ∙ is.1))

  same_text : (other : List ℕ) (n : ℕ) → IsPrefix other n word → text ≡ other
  same_text other n is = head_of text other (pieces_of 47 behind) (decimal n ∷ []) (sym cut ∙ is.1)

  same_slot : (slot : Slot) → prefix ≡ slot → HasAddress slot word → HasAddress prefix word
  same_slot slot same has = subst (λ (s : Slot). HasAddress s word) (sym same) has

  not_digits : prefix ≡ digits → ⊥
  not_digits same = absurd cc

  -- the length is no number
  pub no_length : (reported : Bor (List ℕ)) → reported.now ≡ word → ((n : ℕ) → n ≤ most → behind ≡ decimal n → ⊥) → (command : List ℕ) (others words : List (List ℕ)) → words ≡ word ∷ others → IsSlotFault prefix command words (Word reported)
  no_length reported is none command others words same =
      subst (λ (ws : List (List ℕ)). IsSlotFault prefix command ws (Word reported)) (sym same) (
        λ fits. none fits.2 fits.4.0 (same_length fits.1 fits.2 fits.4),
        (
          is,
          λ slot expected has. let p = same_slot slot expected has in none p.1 p.2.0 (same_length p.0 p.1 p.2),
          not_digits,
        ),
      )

  -- the text names no address
  pub no_name : (reported : Bor (List ℕ)) → reported.now ≡ word → (n : ℕ) → IsPrefix text n word → ((a : AnyAddress) → Names text a → ⊥) → (command : List ℕ) (others words : List (List ℕ)) → words ≡ word ∷ others → IsSlotFault prefix command words (Address reported)
  no_name reported is n prefixed none command others words same =
      subst (λ (ws : List (List ℕ)). IsSlotFault prefix command ws (Address reported)) (sym same) (
        λ fits. none fits.0 (subst (λ (t : List ℕ). Names t fits.0) (sym (same_text fits.1 fits.2 fits.4)) fits.3),
        (is, prefix, refl, (text, n, prefixed)),
      )
