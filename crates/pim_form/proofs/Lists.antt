-- Lists in general.
use Rattle.pim_form.proofs.Words.{◌≡◌, List, [], ◌∷◌, ◌++◌, map, refl, AllByRecursion}

module _ {A : Type 0} where
  pub all_append : (P : A → Type 0) (xs ys : List A) → AllByRecursion P xs → AllByRecursion P ys → AllByRecursion P (xs ++ ys)
  all_append P [] ys all_x all_y = all_y
  all_append P (x ∷ xs) ys all_x all_y = (all_x.0, all_append P xs ys all_x.1 all_y)

  pub all_front : (P : A → Type 0) (xs ys : List A) → AllByRecursion P (xs ++ ys) → AllByRecursion P xs
  all_front P [] ys all = tt
  all_front P (x ∷ xs) ys all = (all.0, all_front P xs ys all.1)

  pub all_behind : (P : A → Type 0) (xs ys : List A) → AllByRecursion P (xs ++ ys) → AllByRecursion P ys
  all_behind P [] ys all = all
  all_behind P (x ∷ xs) ys all = all_behind P xs ys all.1

  pub all_map : {B : Type 0} (P : A → Type 0) (Q : B → Type 0) (f : A → B) → ((x : A) → P x → Q (f x)) → (xs : List A) → AllByRecursion P xs → AllByRecursion Q (map f xs)
  all_map P Q f step [] all = tt
  all_map P Q f step (x ∷ xs) all = (step x all.0, all_map P Q f step xs all.1)

  pub all_mapped : {B : Type 0} (P : A → Type 0) (Q : B → Type 0) (f : A → B) → ((x : A) → Q (f x) → P x) → (xs : List A) → AllByRecursion Q (map f xs) → AllByRecursion P xs
  all_mapped P Q f step [] all = tt
  all_mapped P Q f step (x ∷ xs) all = (step x all.0, all_mapped P Q f step xs all.1)

  -- a map that tells its arguments apart tells lists apart
  pub one_mapped : {B : Type 0} (f : A → B) → ((x y : A) → f x ≡ f y → x ≡ y) → (xs ys : List A) → map f xs ≡ map f ys → xs ≡ ys
  one_mapped f apart [] [] h = refl
  one_mapped f apart [] (y ∷ ys) h = absurd cc
  one_mapped f apart (x ∷ xs) [] h = absurd cc
  one_mapped f apart (x ∷ xs) (y ∷ ys) h =
      let first : f x ≡ f y = cc in
      let others : map f xs ≡ map f ys = cc in
      let head = apart x y first in
      let tail = one_mapped f apart xs ys others in
      λ i. head i ∷ tail i
