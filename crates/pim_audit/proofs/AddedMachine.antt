-- Which machines are touched once a machine was added.
use Rattle.pim_audit.proofs.Words.{◌≡◌, ◌∙◌, ℕ, Bool, true, false, ◌&&◌, ◌||◌, List, [], ◌∷◌, ◌++◌, map, cond, refl, sym, ap, ap₂, false≢true}
use Rattle.pim_audit.proofs.Words.{list_any, is_eq, what_cmp}
use Rattle.std.specs.Prelude.{Result, Ok, Err, is_ok, is_err}
use Rattle.pim_down.specs.declared.machines.key.What.{What}
use Rattle.pim_down.specs.declared.machines.key.What.TheVariants.{Star}
use Rattle.pim_down.specs.Seen.{what_seen}
use Rattle.pim_form.specs.NormalForm.{same_address}
use Rattle.pim_audit.specs.declared.machine.GroupMachine.{GroupMachine}
use Rattle.pim_audit.specs.Touched.{TouchedMachines, machine_seen, machines_seen, is_one_of, is_exception, is_touched, Grows}
use Rattle.std.specs.Cmp.Lexicographic.{texts_ties}
use Rattle.pim_audit.proofs.HeldMachines.{address_equal, what_itself}

-- ---- a list with one more item

or_right : (p q : Bool) → q ≡ true → (p || q) ≡ true
or_right true q e = refl
or_right false q e = e

or_more : (p q r : Bool) → (q ≡ true → r ≡ true) → (p || q) ≡ true → (p || r) ≡ true
or_more true q r more e = refl
or_more false q r more e = more e

module _ {A B : Type 0} (test : B → Bool) (seen : A → B) (added : A) where
  has_last : (items : List A) → test (seen added) ≡ true → list_any test (map seen (items ++ added ∷ [])) ≡ true
  has_last [] passes = rw passes refl
  has_last (item ∷ items) passes = or_right (test (seen item)) _ (has_last items passes)

  has_before : (items : List A) → list_any test (map seen items) ≡ true → list_any test (map seen (items ++ added ∷ [])) ≡ true
  has_before [] has = absurd (false≢true has)
  has_before (item ∷ items) has =
      or_more (test (seen item)) (list_any test (map seen items)) (list_any test (map seen (items ++ added ∷ []))) (has_before items) has

-- ---- the machines

more_touched : (all own own' star star' exception : Bool) → all ≡ false → (own ≡ true → own' ≡ true) → (star ≡ true → star' ≡ true)
    → (all || (own || (exception && star))) ≡ true → (all || (own' || (exception && star'))) ≡ true
more_touched true own own' star star' exception none owns stars e = absurd (false≢true (sym none))
more_touched false true own' star star' exception none owns stars e = rw (owns refl) refl
more_touched false false own' true star' true none owns stars e = rw (stars refl) (or_right own' true refl)
more_touched false false own' true star' false none owns stars e = absurd (false≢true e)
more_touched false false own' false star' true none owns stars e = absurd (false≢true e)
more_touched false false own' false star' false none owns stars e = absurd (false≢true e)

module _ {A : Type 0} (bytes_of : A → List ℕ) (items after : List (GroupMachine A)) (added : GroupMachine A) where
  abbrev now : Bool → TouchedMachines
  now failed = record { all = failed; machines = machines_seen bytes_of after }

  listed : after ≡ items ++ added ∷ [] → is_one_of (bytes_of added.group) (what_seen bytes_of added.what) (machines_seen bytes_of after) ≡ true
  listed is =
      ap (λ (l : List (GroupMachine A)). is_one_of (bytes_of added.group) (what_seen bytes_of added.what) (machines_seen bytes_of l)) is
      ∙ has_last
      (λ (machine : GroupMachine (List ℕ)). same_address (bytes_of added.group) machine.group
      && is_eq (what_cmp (what_seen bytes_of added.what) machine.what)) (machine_seen bytes_of) added items
      (ap₂ (λ a b. a && b) (texts_ties (bytes_of added.group) (bytes_of added.group) ∙ ap is_eq (address_equal (bytes_of added.group)))
      (ap is_eq (what_itself (what_seen bytes_of added.what))))

  -- a machine that was added is touched; where memory was refused, all are
  pub touches_pushed : {T E : Type 0} (pushed : Result T E) (failed : Bool)
      → (failed ≡ is_err pushed) × (after ≡ cond (is_ok pushed) (items ++ added ∷ []) items)
      → is_touched (bytes_of added.group) (what_seen bytes_of added.what) (now failed) ≡ true
  touches_pushed (Err refused) failed is = rw (is.0) refl
  touches_pushed (Ok done) failed is = rw (is.0, listed is.1) refl

  lists_more : (group : List ℕ) (what : What (List ℕ)) → after ≡ items ++ added ∷ [] → is_one_of group what (machines_seen bytes_of items) ≡ true
      → is_one_of group what (machines_seen bytes_of after) ≡ true
  lists_more group what is has =
      ap (λ (l : List (GroupMachine A)). is_one_of group what (machines_seen bytes_of l)) is
      ∙ has_before (λ (machine : GroupMachine (List ℕ)). same_address group machine.group && is_eq (what_cmp what machine.what))
      (machine_seen bytes_of) added items has

  pub grows_pushed : {T E : Type 0} (pushed : Result T E) (failed : Bool)
      → (failed ≡ is_err pushed) × (after ≡ cond (is_ok pushed) (items ++ added ∷ []) items) → (before : TouchedMachines) (all : Bool)
      → record { all = all; machines = machines_seen bytes_of items } ≡ before → all ≡ false → Grows before (now failed)
  grows_pushed (Err refused) failed is before all seen none group what was = rw (is.0) refl
  grows_pushed (Ok done) failed is before all seen none group what was =
      let own = is_one_of group what (machines_seen bytes_of items) in
      let star = is_one_of group Star (machines_seen bytes_of items) in
      let old : (all || (own || (is_exception what && star))) ≡ true = ap (is_touched group what) seen ∙ was in
      rw (is.0)
      (more_touched false own (is_one_of group what (machines_seen bytes_of after)) star (is_one_of group Star (machines_seen bytes_of after))
      (is_exception what) refl (lists_more group what is.1) (lists_more group Star is.1)
      (ap (λ b. b || (own || (is_exception what && star))) (sym none) ∙ old))
