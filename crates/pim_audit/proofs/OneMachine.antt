-- When two machines of groups are the same one, and which machines are touched.
use Rattle.pim_audit.proofs.Words.{◌≡◌, ◌∙◌, ℕ, Bool, true, false, ◌&&◌, ◌||◌, List, refl, sym, ap, ap₂, false≢true}
use Rattle.pim_audit.proofs.Words.{is_eq, nat_cmp, ordering_then, Less, Equal, Greater, address_cmp, what_cmp}
use Rattle.std.proofs.lemmas.Bool.{and_parts}
use Rattle.std.specs.Cmp.Lexicographic.{same_text, texts_ties}
use Rattle.std.specs.declared.cmp.Ordering.{Ordering}
use Rattle.pim_down.specs.declared.machines.key.What.{What}
use Rattle.pim_down.specs.declared.machines.key.What.TheVariants.{Star, Rpt}
use Rattle.pim_down.specs.declared.machines.key.Key.{Key}
use Rattle.pim_down.specs.Key.{key_cmp, same_key}
use Rattle.pim_form.specs.NormalForm.{same_address}
use Rattle.pim_audit.specs.Touched.{TouchedMachines, is_touched, is_one_of, Grows}
use Rattle.pim_audit.proofs.HeldMachines.{is_equal, one_what}

-- ---- one machine

-- Both are the same machine of the same group.
abbrev pub same_machine : List ℕ → What (List ℕ) → List ℕ → What (List ℕ) → Bool
same_machine group what other this = same_address group other && is_eq (what_cmp what this)

then_apart : (q r s : Ordering) → (is_eq r && is_eq s) ≡ false → is_eq (ordering_then (ordering_then q r) s) ≡ false
then_apart Less r s e = refl
then_apart Equal Less s e = refl
then_apart Equal Equal s e = e
then_apart Equal Greater s e = refl
then_apart Greater r s e = refl

-- the key of another machine
pub other_key : (port : ℕ) (group : List ℕ) (what : What (List ℕ)) (key : Key (List ℕ))
    → same_machine group what key.group key.what ≡ false → same_key (record { port = port; group = group; what = what }) key ≡ false
unfolding key_cmp
other_key port group what key apart =
    then_apart (nat_cmp port key.port) (address_cmp group key.group) (what_cmp what key.what)
    (ap (λ b. b && is_eq (what_cmp what key.what)) (sym (texts_ties group key.group)) ∙ apart)

-- ---- touched machines

pub touched_one : (group other : List ℕ) (what this : What (List ℕ)) (touched : TouchedMachines) → same_machine group what other this ≡ true
    → is_touched other this touched ≡ true → is_touched group what touched ≡ true
touched_one group other what this touched same is =
    let parts = and_parts (same_address group other) (is_eq (what_cmp what this)) same in
    ap₂ (λ g w. is_touched g w touched) (same_text group other (sym parts.0)) (one_what what this (is_equal (what_cmp what this) parts.1)) ∙ is

-- a fact that makes a machine touched doesn't hold of one that isn't
pub untouched_if : (test : Bool) (group : List ℕ) (what : What (List ℕ)) (touched : TouchedMachines)
    → (test ≡ true → is_touched group what touched ≡ true) → is_touched group what touched ≡ false → test ≡ false
untouched_if true group what touched is apart = absurd (false≢true (sym apart ∙ is refl))
untouched_if false group what touched is apart = refl

-- a machine that isn't touched is no touched one
pub apart_from : (group other : List ℕ) (what this : What (List ℕ)) (touched : TouchedMachines) → is_touched other this touched ≡ true
    → is_touched group what touched ≡ false → same_machine group what other this ≡ false
apart_from group other what this touched has apart =
    untouched_if (same_machine group what other this) group what touched (λ same. touched_one group other what this touched same has) apart

pub untouched_before : (group : List ℕ) (what : What (List ℕ)) (before after : TouchedMachines) → Grows before after
    → is_touched group what after ≡ false → is_touched group what before ≡ false
untouched_before group what before after grows apart =
    untouched_if (is_touched group what before) group what after (grows group what) apart

-- nor is (*,G), where an (S,G,rpt) of the group isn't
pub untouched_star : (group source : List ℕ) (touched : TouchedMachines) → is_touched group (Rpt source) touched ≡ false
    → is_touched group Star touched ≡ false
untouched_star group source touched apart =
    by touched.all (is_one_of group (Rpt source) touched.machines) (is_one_of group Star touched.machines) apart
  where
    by : (all own star : Bool) → (all || (own || (true && star))) ≡ false → (all || (star || (false && star))) ≡ false
    by true own star e = absurd (false≢true (sym e))
    by false true star e = absurd (false≢true (sym e))
    by false false true e = absurd (false≢true (sym e))
    by false false false e = refl

pub all_touched : (group : List ℕ) (what : What (List ℕ)) (touched : TouchedMachines) → touched.all ≡ true → is_touched group what touched ≡ true
all_touched group what touched all = rw all refl

pub grows_not : (touched : TouchedMachines) → Grows touched touched
grows_not touched group what is = is

pub grows_more : (a b c : TouchedMachines) → Grows a b → Grows b c → Grows a c
grows_more a b c first second group what is = second group what (first group what is)
