-- Entries that are sorted, and are there once.
use Rattle.pim_audit.proofs.GatherWords.{◌≡◌, Bool, false, cond, List, [], ◌∷◌, map, refl, ap, subst}
use Rattle.pim_audit.proofs.GatherWords.{IsTotalOrder, on_total, AllByRecursion, IsStrictlySortedBy, Ordering, Less}
use Rattle.pim_audit.proofs.GatherWords.{is_eq, is_lt, Event, ◌∙◌}
use Rattle.pim_audit.proofs.GatherWords.{ℕ}
use Rattle.pim_audit.proofs.Words.{Due, dues_seen, event_seen, held_entries, same_entry, entry_cmp, EntriesAscend}
use Rattle.pim_audit.proofs.Keys.{same_turned}
use Rattle.pim_audit.proofs.EntryOrder.{entry_total}
use Rattle.std.proofs.lemmas.Fn.{always_returns_same}
use Rattle.std.proofs.lemmas.List.Kept.{IsStrictlySortedBy-dedup}
use Rattle.std.proofs.lemmas.List.Sorted.{IsPermutation-map, ranks_by}
use Rattle.std.proofs.lemmas.Map.Keys.{IsDistinct-IsPermutation}
use Rattle.std.specs.Borrow.{Bor}
use Rattle.std.specs.Cmp.{IsStrictWeakOrder}
use Rattle.std.specs.Fn.{Mut, Called, ComparesAs}
use Rattle.std.specs.List.{dedup, dedup_from}
unfoldable use Rattle.std.specs.List.{IsDistinct}
use Rattle.std.specs.List.Sorted.{IsPermutation, IsSorted, IsSortedBy}
use Rattle.pim_audit.specs.Compared.{AreApart}

module _ {A : Type 0} (f : A → Event) where
  abbrev pub cmp_by : A → A → Ordering
  cmp_by x y = entry_cmp (f x) (f y)

  abbrev pub same_by : A → A → Bool
  same_by x y = is_eq (entry_cmp (f x) (f y))

  total_by : IsTotalOrder cmp_by
  total_by = on_total f entry_total

  all_less : (x : A) (xs : List A) → AllByRecursion (λ y. cmp_by x y ≡ Less) xs
      → AllByRecursion (λ e. entry_cmp (f x) e ≡ Less) (map f xs)
  all_less x [] all = tt
  all_less x (y ∷ ys) all = (all.0, all_less x ys all.1)

  ascend : (xs : List A) → IsStrictlySortedBy cmp_by xs → EntriesAscend (map f xs)
  unfolding IsStrictlySortedBy
  ascend [] up = tt
  ascend (x ∷ xs) up = (all_less x xs up.0, ascend xs up.1)

  -- the entries of different items are different
  apart_items : (xs : List A) → AreApart (map f xs) → IsDistinct same_by xs
  unfolding IsDistinct
  apart_items [] apart = tt
  apart_items (x ∷ xs) apart = (others xs apart.0, apart_items xs apart.1)
    where
      others : (ys : List A) → AllByRecursion (λ e. same_entry (f x) e ≡ false) (map f ys) → AllByRecursion (λ y. same_by x y ≡ false) ys
      others [] all = tt
      others (y ∷ ys) all = (all.0, others ys all.1)

  -- of different items none is dropped
  all_kept_from : (x : A) (xs : List A) → IsDistinct same_by (x ∷ xs) → dedup_from same_by x xs ≡ x ∷ xs
  unfolding IsDistinct
  all_kept_from x [] apart = refl
  all_kept_from x (y ∷ ys) apart =
      ap (λ b. cond b (dedup_from same_by x ys) (x ∷ dedup_from same_by y ys)) (same_turned (f y) (f x) ∙ apart.0.0)
      ∙ ap (λ (l : List A). x ∷ l) (all_kept_from y ys apart.1)

  all_kept : (xs : List A) → IsDistinct same_by xs → dedup same_by xs ≡ xs
  all_kept [] apart = refl
  all_kept (x ∷ xs) apart = all_kept_from x xs apart

  -- different items that were sorted ascend
  pub in_order : (old new : List A) → AreApart (map f old) → IsPermutation old new → IsSorted cmp_by new → EntriesAscend (map f new)
  in_order old new apart moved sorted =
      ascend new
      (subst (IsStrictlySortedBy cmp_by)
      (all_kept new (apart_items new
      (IsDistinct-IsPermutation same_entry same_turned (map f old) (map f new) (IsPermutation-map f old new moved) apart)))
      (IsStrictlySortedBy-dedup total_by (λ x y. refl) new sorted))

-- the entries of what is due, as the code has it
pub held_seen : {A : Type 0} (bytes_of : A → List ℕ) (xs : List (Due A)) → held_entries (dues_seen bytes_of xs)
    ≡ map (λ due. event_seen bytes_of due.entry) xs
held_seen bytes_of [] = refl
held_seen bytes_of (x ∷ xs) = ap (λ (l : List Event). event_seen bytes_of x.entry ∷ l) (held_seen bytes_of xs)

-- what a closure sorts that compares as entries
pub sorts_by : {A F : Type 0} (f : A → Event) {g : Mut F (Bor A × (Bor A × Unit {0})) Ordering} {s : F} (ys : List A)
    → ((lt : A → A → Bool) → IsStrictWeakOrder lt → ComparesAs g lt s → IsSortedBy lt ys)
    → ((a : Bor A × (Bor A × Unit {0})) (r : Ordering) (s' : F) → Called g s a r s'
    → (r ≡ entry_cmp (f a.0.now) (f a.1.0.now)) × (s' ≡ s))
    → IsSorted (cmp_by f) ys
sorts_by f {g = g} {s = s} ys sorted h =
    sorted (λ x y. is_lt (entry_cmp (f x) (f y)))
    (ranks_by entry_total f)
    (always_returns_same g (λ a r. is_lt r ≡ is_lt (entry_cmp (f a.0.now) (f a.1.0.now))) s
    (λ a r s' k. (ap is_lt (h a r s' k).0, (h a r s' k).1)))
