-- A router that has a neighbour on some port, and lists of nothing.
use Rattle.pim_audit.proofs.Words.{◌≡◌, ◌∙◌, ℕ, zero, suc, ◌<◌, Bool, true, false, ◌||◌, [], Option, None, Some, ◌+◌, add-one}
use Rattle.pim_audit.proofs.Words.{inl, inr, refl, sym, ap, subst, arith, cases_lt, is_some, option_map, IsStrictlySortedBy}
use Rattle.pim_audit.proofs.Words.{some_below, EntriesAscend}

pub some_at : (test : ℕ → Bool) (count index : ℕ) → index < count → test index ≡ true → some_below count test ≡ true
unfolding some_below
some_at test zero index within is = absurd (omega (arith, within))
some_at test (suc count) index within is =
    elim (cases_lt index count) as (λ _. (test count || some_below count test) ≡ true) [
      | inl below ↦ or_right (test count) (some_at test count index below is)
      | inr from ↦ or_left (some_below count test) (subst (λ n. test n ≡ true) (same (omega (arith, within, from))) is)
    ]
  where
    same : index ≡ count → index ≡ count
    same e = e

    or_left : {a : Bool} (b : Bool) → a ≡ true → (a || b) ≡ true
    or_left b e = ap (λ t. t || b) e

    or_right : {b : Bool} (a : Bool) → b ≡ true → (a || b) ≡ true
    or_right true e = refl
    or_right false e = e

pub nothing_in_order : EntriesAscend []
unfolding IsStrictlySortedBy
nothing_in_order = tt

-- an option that is mapped is there where the option is
mapped : {A B : Type 0} (f : A → B) (o : Option A) → is_some (option_map f o) ≡ is_some o
mapped f None = refl
mapped f (Some x) = refl

pub both_there : {A B C : Type 0} (f : A → C) (h : B → C) (o : Option A) (p : Option B) → option_map f o ≡ option_map h p
    → is_some o ≡ is_some p
both_there f h o p same = sym (mapped f o) ∙ ap is_some same ∙ mapped h p

pub none_yet : (test : ℕ → Bool) → some_below 0 test ≡ false
unfolding some_below
none_yet test = refl

pub none_more : (test : ℕ → Bool) (count : ℕ) → test count ≡ false → some_below count test ≡ false → some_below (count + 1) test ≡ false
unfolding some_below
none_more test count last before = subst (λ n. some_below n test ≡ false) (sym (add-one count)) (rw (last, before) refl)
