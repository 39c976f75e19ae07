-- What a form wants, said of the machines that it names.
use Rattle.pim_mirror.proofs.Words.{◌≡◌, ℕ, Bool, true, false, ◌&&◌, ◌||◌, not, List, [], ◌∷◌, Option, None, Some, refl}
use Rattle.pim_mirror.proofs.Words.{sym, subst, is_some, Less, AllByRecursion, IsStrictlySortedBy, nat_cmp, slice_cmp}
use Rattle.pim_mirror.proofs.Words.{false≢true, What, Star, Rpt, Shared, GroupForm, AreAscending, same_address}
use Rattle.pim_mirror.proofs.Words.{is_listed, groups_of, is_excepted, form_wants, exceptions_of, form_names}
use Rattle.pim_mirror.proofs.SameAddresses.{same_is, less_apart}

abbrev IsBelow : List ℕ → List GroupForm → Type 0
IsBelow group form = AllByRecursion (λ other. slice_cmp nat_cmp group other ≡ Less) (groups_of form)

none_named : (group : List ℕ) (w : What (List ℕ)) (form : List GroupForm) → IsBelow group form → form_names form group w ≡ false
none_named group w [] below = refl
none_named group w (this ∷ form) below = rw (less_apart group this.group below.0) (none_named group w form below.1)

none_wanted : (group s : List ℕ) (form : List GroupForm) → IsBelow group form → form_wants form s group Shared ≡ false
none_wanted group s [] below = refl
none_wanted group s (this ∷ form) below = rw (less_apart group this.group below.0) (none_wanted group s form below.1)

star_alone : (s : List ℕ) (star : Option (List (List ℕ))) (a b c : Bool) → a ≡ false → b ≡ false → c ≡ false
    → ((is_some star || a) && not (is_listed s (exceptions_of star) || b)) ≡ (not (is_excepted s star) || c)
star_alone s star true b c p q r = absurd (false≢true (sym p))
star_alone s star false true c p q r = absurd (false≢true (sym q))
star_alone s star false false true p q r = absurd (false≢true (sym r))
star_alone s None false false false p q r = refl
star_alone s (Some exceptions) false false false p q r = by (is_listed s exceptions)
  where
    by : (l : Bool) → (true && not (l || false)) ≡ (not l || false)
    by true = refl
    by false = refl

-- on the shared tree what has a star and no exception
pub shared_wants : (s group : List ℕ) (form : List GroupForm) → AreAscending (groups_of form)
    → (form_names form group Star && not (form_names form group (Rpt s))) ≡ form_wants form s group Shared
unfolding IsStrictlySortedBy
shared_wants s group [] up = refl
shared_wants s group (this ∷ form) up =
    elim (same_address group this.group) as (λ t. same_address group this.group ≡ t →
    (((t && is_some this.star) || form_names form group Star) && not ((t && is_listed s (exceptions_of this.star)) || form_names form group (Rpt s)))
    ≡ ((t && not (is_excepted s this.star)) || form_wants form s group Shared)) [
      | true ↦ λ same.
          let below : IsBelow group form = subst (λ (g : List ℕ). IsBelow g form) (sym (same_is group this.group same)) up.0 in
          star_alone s this.star (form_names form group Star) (form_names form group (Rpt s)) (form_wants form s group Shared)
          (none_named group Star form below) (none_named group (Rpt s) form below) (none_wanted group s form below)
      | false ↦ λ apart. shared_wants s group form up.1
    ] refl
