-- A text is the kind and the address of at most one entry.
use Rattle.pim_text.proofs.Words.{◌≡◌, ◌∙◌, sym, ap, ℕ, List, [], ◌∷◌, Some, codes, get_or, arith, Entry, Star, Source}
use Rattle.pim_text.proofs.Words.{Rpt, AnyAddress, IsAddressAfter, IsEntry}
use Rattle.pim_text.proofs.FieldEnds.{same_some}

module _ (text : List ℕ) where
  abbrev IsStar : AnyAddress → Type 0
  IsStar a = IsAddressAfter (codes "star ") a (10 ∷ []) text

  abbrev IsSource : AnyAddress → Type 0
  IsSource a = IsAddressAfter (codes "source ") a (10 ∷ []) text

  abbrev IsRpt : AnyAddress → Type 0
  IsRpt a = IsAddressAfter (codes "rpt ") a (10 ∷ []) text

  star_or_source : (a b : AnyAddress) → IsStar a → IsSource b → ⊥
  star_or_source a b (one, names, is) (other, too, so) = omega (arith, ap (λ (l : List ℕ). get_or l 1 0) (sym is ∙ so))

  star_or_rpt : (a b : AnyAddress) → IsStar a → IsRpt b → ⊥
  star_or_rpt a b (one, names, is) (other, too, so) = omega (arith, ap (λ (l : List ℕ). get_or l 0 0) (sym is ∙ so))

  source_or_rpt : (a b : AnyAddress) → IsSource a → IsRpt b → ⊥
  source_or_rpt a b (one, names, is) (other, too, so) = omega (arith, ap (λ (l : List ℕ). get_or l 0 0) (sym is ∙ so))

  pub only_star : (a : AnyAddress) → IsStar a → ((b : AnyAddress) → IsStar b → Some a ≡ Some b) → (entry : Entry AnyAddress) → IsEntry entry text → Some (Star a) ≡ Some entry
  only_star a is only (Star b) so = ap (λ (x : AnyAddress). Some (Star x)) (same_some a b (only b so))
  only_star a is only (Source b) so = absurd (star_or_source a b is so)
  only_star a is only (Rpt b) so = absurd (star_or_rpt a b is so)

  pub only_source : (a : AnyAddress) → IsSource a → ((b : AnyAddress) → IsSource b → Some a ≡ Some b) → (entry : Entry AnyAddress) → IsEntry entry text → Some (Source a) ≡ Some entry
  only_source a is only (Source b) so = ap (λ (x : AnyAddress). Some (Source x)) (same_some a b (only b so))
  only_source a is only (Star b) so = absurd (star_or_source b a so is)
  only_source a is only (Rpt b) so = absurd (source_or_rpt a b is so)

  pub only_rpt : (a : AnyAddress) → IsRpt a → ((b : AnyAddress) → IsRpt b → Some a ≡ Some b) → (entry : Entry AnyAddress) → IsEntry entry text → Some (Rpt a) ≡ Some entry
  only_rpt a is only (Rpt b) so = ap (λ (x : AnyAddress). Some (Rpt x)) (same_some a b (only b so))
  only_rpt a is only (Star b) so = absurd (star_or_rpt b a so is)
  only_rpt a is only (Source b) so = absurd (source_or_rpt b a so is)

  pub no_entry : ((b : AnyAddress) → IsStar b → ⊥) → ((b : AnyAddress) → IsSource b → ⊥) → ((b : AnyAddress) → IsRpt b → ⊥) → (entry : Entry AnyAddress) → IsEntry entry text → ⊥
  no_entry star source rpt (Star b) so = star b so
  no_entry star source rpt (Source b) so = source b so
  no_entry star source rpt (Rpt b) so = rpt b so
