-- An item goes into the slot with the number of its place, if that is free.
use Rattle.pim_merge.proofs.Words.{◌≡◌, ◌∙◌, ◌≤◌, ◌<◌, ◌||◌, ℕ, suc, Bool, true, false, List, [], ◌∷◌, Option, None}
use Rattle.pim_merge.proofs.Words.{Some, length, ap, sym, refl, slice_set, get_or, if◌then◌else◌, arith, false≢true}
use Rattle.pim_merge.proofs.Words.{added, place_of, fits, is_some}

module _ {A : Type 0} (same : A → A → Bool) (item : A) (d : Option A) where
  free_later : (b : Bool) (held : A) (slots later : List (Option A)) (place : ℕ) → (is_some (get_or slots place d) ≡ false → slice_set slots place (Some item) ≡ later)
      → is_some (get_or (Some held ∷ slots) (if b then 0 else suc place) d) ≡ false → slice_set (Some held ∷ slots) (if b then 0 else suc place) (Some item) ≡ Some held ∷ (if b then slots else later)
  free_later true held slots later place k e = absurd (false≢true (sym e))
  free_later false held slots later place k e = ap (λ it. Some held ∷ it) (k e)

  free_at : (slots : List (Option A)) → is_some (get_or slots (place_of (same item) slots) d) ≡ false → slice_set slots (place_of (same item) slots) (Some item) ≡ added same item slots
  unfolding place_of added
  free_at [] e = refl
  free_at (None ∷ slots) e = refl
  free_at (Some held ∷ slots) e = free_later (same item held) held slots (added same item slots) (place_of (same item) slots) (free_at slots) e

  held_later : (b : Bool) (held : A) (slots later : List (Option A)) (place : ℕ) → (is_some (get_or slots place d) ≡ true → slots ≡ later)
      → is_some (get_or (Some held ∷ slots) (if b then 0 else suc place) d) ≡ true → Some held ∷ slots ≡ Some held ∷ (if b then slots else later)
  held_later true held slots later place k e = refl
  held_later false held slots later place k e = ap (λ it. Some held ∷ it) (k e)

  held_at : (slots : List (Option A)) → is_some (get_or slots (place_of (same item) slots) d) ≡ true → slots ≡ added same item slots
  unfolding place_of added
  held_at [] e = refl
  held_at (None ∷ slots) e = absurd (false≢true e)
  held_at (Some held ∷ slots) e = held_later (same item held) held slots (added same item slots) (place_of (same item) slots) (held_at slots) e

  -- the slot with the number of the item's place was free, and now has the item
  pub add_free : (slots new : List (Option A)) (place : ℕ) → place ≡ place_of (same item) slots → is_some (get_or slots place d) ≡ false → new ≡ slice_set slots place (Some item) → new ≡ added same item slots
  add_free slots new place at free is =
      is ∙ ap (λ it. slice_set slots it (Some item)) at ∙ free_at slots (ap (λ it. is_some (get_or slots it d)) (sym at) ∙ free)

  -- it has the item already
  pub add_held : (slots : List (Option A)) (place : ℕ) → place ≡ place_of (same item) slots → is_some (get_or slots place d) ≡ true → slots ≡ added same item slots
  add_held slots place at held = held_at slots (ap (λ it. is_some (get_or slots it d)) (sym at) ∙ held)

module _ {A : Type 0} (same : A → A → Bool) (item : A) where
  past_later : (b : Bool) (held : A) (slots later : List (Option A)) (place : ℕ) → (length slots ≤ place → slots ≡ later) → length (Some held ∷ slots) ≤ (if b then 0 else suc place)
      → Some held ∷ slots ≡ Some held ∷ (if b then slots else later)
  past_later true held slots later place k over = refl
  past_later false held slots later place k over = ap (λ it. Some held ∷ it) (k (omega (arith, over)))

  past : (slots : List (Option A)) → length slots ≤ place_of (same item) slots → slots ≡ added same item slots
  unfolding place_of added
  past [] over = refl
  past (None ∷ slots) over = absurd (omega (arith, over))
  past (Some held ∷ slots) over = past_later (same item held) held slots (added same item slots) (place_of (same item) slots) (past slots) over

  unfit_later : (b rest : Bool) (count place : ℕ) → (count ≤ place → rest ≡ false) → suc count ≤ (if b then 0 else suc place) → (b || rest) ≡ false
  unfit_later true rest count place k over = absurd (omega (arith, over))
  unfit_later false rest count place k over = k (omega (arith, over))

  unfit : (slots : List (Option A)) → length slots ≤ place_of (same item) slots → fits same item slots ≡ false
  unfolding place_of
  unfit [] over = refl
  unfit (None ∷ slots) over = absurd (omega (arith, over))
  unfit (Some held ∷ slots) over = unfit_later (same item held) (fits same item slots) (length slots) (place_of (same item) slots) (unfit slots) over

  fit_later : (b rest : Bool) (count place : ℕ) → (place < count → rest ≡ true) → (if b then 0 else suc place) < suc count → (b || rest) ≡ true
  fit_later true rest count place k within = refl
  fit_later false rest count place k within = k (omega (arith, within))

  fit : (slots : List (Option A)) → place_of (same item) slots < length slots → fits same item slots ≡ true
  unfolding place_of
  fit [] within = absurd (omega (arith, within))
  fit (None ∷ slots) within = refl
  fit (Some held ∷ slots) within = fit_later (same item held) (fits same item slots) (length slots) (place_of (same item) slots) (fit slots) within

  -- no slot takes the item
  pub add_past : (slots : List (Option A)) (place : ℕ) → place ≡ place_of (same item) slots → length slots ≤ place → slots ≡ added same item slots
  add_past slots place at over = past slots (omega (arith, at, over))

  pub fits_not : (slots : List (Option A)) (place : ℕ) → place ≡ place_of (same item) slots → length slots ≤ place → false ≡ fits same item slots
  fits_not slots place at over = sym (unfit slots (omega (arith, at, over)))

  -- one does
  pub fits_there : (slots : List (Option A)) (place : ℕ) → place ≡ place_of (same item) slots → place < length slots → true ≡ fits same item slots
  fits_there slots place at within = sym (fit slots (omega (arith, at, within)))
