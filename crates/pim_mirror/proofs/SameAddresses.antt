-- When two addresses are the same.
use Rattle.pim_mirror.proofs.Words.{◌≡◌, ◌∙◌, ℕ, Bool, true, false, ◌&&◌, ◌||◌, List, refl, sym, ap, Less, Equal}
use Rattle.pim_mirror.proofs.Words.{Greater, nat_cmp, is_eq, slice_cmp, texts_ties, slice_cmp-IsAntisymmetric}
use Rattle.pim_mirror.proofs.Words.{nat_cmp-IsAntisymmetric, false≢true, same_address}
use Rattle.std.proofs.lemmas.Cmp.{nat_list_eq_equiv}

pub same_itself : (a : List ℕ) → same_address a a ≡ true
same_itself a = nat_list_eq_equiv.refl a

pub same_flips : (a b : List ℕ) → same_address a b ≡ same_address b a
same_flips a b = nat_list_eq_equiv.symm a b

-- two that are the same as a third
pub same_both : (a b c : List ℕ) → same_address a b ≡ true → same_address a c ≡ true → same_address b c ≡ true
same_both a b c same other = sym (nat_list_eq_equiv.congr a b c same) ∙ other

equal_from : (a b : List ℕ) → is_eq (slice_cmp nat_cmp a b) ≡ true → a ≡ b
equal_from a b =
    elim (slice_cmp nat_cmp a b) as (λ r. slice_cmp nat_cmp a b ≡ r → is_eq r ≡ true → a ≡ b) [
      | Less ↦ λ e h. absurd (false≢true h)
      | Equal ↦ λ e h. slice_cmp-IsAntisymmetric nat_cmp-IsAntisymmetric a b e
      | Greater ↦ λ e h. absurd (false≢true h)
    ] refl

pub same_is : (a b : List ℕ) → same_address a b ≡ true → a ≡ b
same_is a b h = equal_from a b (sym (texts_ties a b) ∙ h)

pub less_apart : (a b : List ℕ) → slice_cmp nat_cmp a b ≡ Less → same_address a b ≡ false
less_apart a b h = texts_ties a b ∙ ap is_eq h

-- ---- tests

pub first_true : (a b : Bool) → (a && b) ≡ true → a ≡ true
first_true true b h = refl
first_true false b h = h

pub second_true : (a b : Bool) → (a && b) ≡ true → b ≡ true
second_true true b h = h
second_true false b h = absurd (false≢true h)

pub both : (a b : Bool) → a ≡ true → b ≡ true → (a && b) ≡ true
both true b p q = q
both false b p q = p

pub and_false : (a : Bool) → (a && false) ≡ false
and_false true = refl
and_false false = refl

pub or_none : (a : Bool) → (a || false) ≡ a
or_none true = refl
or_none false = refl

pub and_or : (a b c : Bool) → ((a && b) || (a && c)) ≡ (a && (b || c))
and_or true b c = refl
and_or false b c = refl

pub and_and : (a b c : Bool) → ((a && b) && c) ≡ (a && (b && c))
and_and true b c = refl
and_and false b c = refl
