-- What is known of the files that an opener opens, and of the names that it was asked for.
use Rattle.std.specs.Prelude.{◌≡◌, ⊤, ℕ, List, ◌++◌, replicate, Option, None, Some, IsSome, Result, Ok, Err}
use Rattle.std.specs.Prelude.{MatchResult}
use Rattle.pim_files.specs.declared.opener.FileCause.{FileCause}
use Rattle.pim_files.specs.declared.opener.Unopened.{Unopened}
use Rattle.pim_files.specs.declared.opener.Unopened.TheVariants.{File, Memory}

-- The files that an opener opens.
pub record Files : Type 0 where
  -- what the file of each name holds; `None` for a name without a file that can be opened
  pub contents : List ℕ → Option (List ℕ)
  -- why the file of a name can't be opened
  pub causes : List ℕ → FileCause

-- What is known of an opener. `None` says that nothing is known.
pub record Known : Type 0 where
  pub files : Option Files
  -- the names that it was asked for, in this order
  pub requested : Option (List (List ℕ))

-- Nothing is known.
abbrev pub nothing_known : Known
nothing_known = record { files = None; requested = None }

-- If the names that were asked for are known afterwards, these came last, after the earlier ones.
abbrev pub Grows : Option (List (List ℕ)) → Option (List (List ℕ)) → List (List ℕ) → Type 0
Grows before None names = ⊤
Grows None (Some requested) names = ⊥
Grows (Some before) (Some requested) names = requested ≡ before ++ names

-- The opener was asked for these names, one after another. What files hold is the same.
pub record RequestsFor (old new : Known) (names : List (List ℕ)) : Type 0 where
  pub files : new.files ≡ old.files
  pub requested : Grows old.requested new.requested names

-- The opener was asked for some first ones of these names.
pub record RequestsFront (old new : Known) (names : List (List ℕ)) : Type 0 where
  pub front : List (List ℕ)
  pub others : List (List ℕ)
  pub cut : names ≡ front ++ others
  pub requests : RequestsFor old new front

-- At Ok the opener was asked for all these names, at Err for some first ones.
abbrev pub RequestsAll : {A E : Type 0} → Known → Known → List (List ℕ) → Result A E → Type 0
RequestsAll old new names result = MatchResult result (λ _. RequestsFor old new names) (λ _. RequestsFront old new names)

-- What opening the file of this name gives: a reader that has all of it to give. Otherwise it can't
-- be opened for its cause, or memory is refused.
abbrev pub Opens : {R : Type 0} → (R → Option (List ℕ)) → Files → List ℕ → Result R Unopened → Type 0
Opens remaining files name (Ok reader) =
    IsSome (files.contents name) × (remaining reader ≡ files.contents name)
Opens remaining files name (Err (File cause)) = (files.contents name ≡ None) × (cause ≡ files.causes name)
Opens remaining files name (Err Memory) = ⊤

-- ---- a file that is opened at its first read

-- What a reader is said to have left of a file that can't be opened: values that are no bytes, as
-- many as a header of a file has bytes. No read can give one of them, so each read fails.
abbrev pub no_bytes : List ℕ
no_bytes = replicate 24 256

-- What a reader has left of a file with these contents, if it can be opened.
abbrev pub left_of : Option (List ℕ) → List ℕ
left_of None = no_bytes
left_of (Some content) = content

-- What a reader has left of the file of this name, before its first read.
abbrev pub bytes_later : Files → List ℕ → List ℕ
bytes_later files name = left_of (files.contents name)
