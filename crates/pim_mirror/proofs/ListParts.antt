-- What holds of all elements of a list.
use Rattle.pim_mirror.proofs.Words.{List, [], ◌∷◌, ◌++◌, map, AllByRecursion}

module _ {A : Type 0} where
  pub all_append : (P : A → Type 0) (xs ys : List A) → AllByRecursion P xs → AllByRecursion P ys → AllByRecursion P (xs ++ ys)
  all_append P [] ys all_x all_y = all_y
  all_append P (x ∷ xs) ys all_x all_y = (all_x.0, all_append P xs ys all_x.1 all_y)

  pub all_front : (P : A → Type 0) (xs ys : List A) → AllByRecursion P (xs ++ ys) → AllByRecursion P xs
  all_front P [] ys all = tt
  all_front P (x ∷ xs) ys all = (all.0, all_front P xs ys all.1)

  pub all_behind : (P : A → Type 0) (xs ys : List A) → AllByRecursion P (xs ++ ys) → AllByRecursion P ys
  all_behind P [] ys all = all
  all_behind P (x ∷ xs) ys all = all_behind P xs ys all.1

  pub all_known : (P Q : A → Type 0) → ((x : A) → P x → Q x) → (xs : List A) → AllByRecursion P xs → AllByRecursion Q xs
  all_known P Q step [] all = tt
  all_known P Q step (x ∷ xs) all = (step x all.0, all_known P Q step xs all.1)

  pub all_map : {B : Type 0} (P : A → Type 0) (Q : B → Type 0) (f : A → B) → ((x : A) → P x → Q (f x)) → (xs : List A) → AllByRecursion P xs → AllByRecursion Q (map f xs)
  all_map P Q f step [] all = tt
  all_map P Q f step (x ∷ xs) all = (step x all.0, all_map P Q f step xs all.1)

  pub all_mapped : {B : Type 0} (P : A → Type 0) (Q : B → Type 0) (f : A → B) → ((x : A) → Q (f x) → P x) → (xs : List A) → AllByRecursion Q (map f xs) → AllByRecursion P xs
  all_mapped P Q f step [] all = tt
  all_mapped P Q f step (x ∷ xs) all = (step x all.0, all_mapped P Q f step xs all.1)
