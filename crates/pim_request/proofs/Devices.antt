-- What reads leave of the two devices.
use Rattle.pim_request.proofs.Cited.{◌≡◌, ◌∙◌, sym, ap, refl, subst, inl, inr, ◌⊎◌, ◌<◌, ℕ, List, Option, Some, None}
use Rattle.pim_request.proofs.Cited.{Result, Ok, Err, OnErr, IfSome, Keeps, LeavesLess, PassesOn, Lines, Proceeds}

-- what holds anyway, holds at an error
pub on_err : {A E : Type 0} (P : Type 0) (result : Result A E) → P → OnErr result P
on_err P (Ok value) holds = tt
on_err P (Err error) holds = holds

-- what holds of each value that may be known
pub if_known : {A : Type 0} {P : A → Type 0} (known : Option A) → ((value : A) → known ≡ Some value → P value) → IfSome known P
if_known None holds = tt
if_known (Some value) holds = holds value refl

pub at_value : {A : Type 0} (P : A → Type 0) (known : Option A) (value : A) → known ≡ Some value → IfSome known P → P value
at_value P known value is holds = subst (λ some. IfSome some P) is holds

-- what follows where a value is known
pub where_known : {A : Type 0} {P Q : A → Type 0} (known : Option A) → ((value : A) → P value → Q value) → IfSome known P → IfSome known Q
where_known None step holds = holds
where_known (Some value) step holds = step value holds

pub keeps_trans : (first second third : Option (List ℕ)) → Keeps first second → Keeps second third → Keeps first third
keeps_trans None second third one two = tt
keeps_trans (Some bytes) None third one two = absurd one
keeps_trans (Some bytes) (Some same) None one two = absurd two
keeps_trans (Some bytes) (Some same) (Some last) one two = two ∙ one

still_passed : {W : Type 0} (contents passed_on : W → Option (List ℕ)) (old new : W) → new ≡ old → passed_on old ≡ contents old → passed_on new ≡ contents new
still_passed contents passed_on old new same passed = ap passed_on same ∙ passed ∙ ap contents (sym same)

passed_twice : {W : Type 0} (contents passed_on : W → Option (List ℕ)) (first middle last : W) (some less least : ℕ) → ((middle ≡ first) × (less ≡ some)) ⊎ (passed_on middle ≡ contents middle) → ((last ≡ middle) × (least ≡ less)) ⊎ (passed_on last ≡ contents last) → ((last ≡ first) × (least ≡ some)) ⊎ (passed_on last ≡ contents last)
passed_twice contents passed_on first middle last some less least one (inr passed) = inr passed
passed_twice contents passed_on first middle last some less least (inl one) (inl two) = inl (two.0 ∙ one.0, two.1 ∙ one.1)
passed_twice contents passed_on first middle last some less least (inr passed) (inl two) = inr (still_passed contents passed_on middle last two.0 passed)

-- one call after others
pub proceeds_on : {W : Type 0} (contents passed_on : W → Option (List ℕ)) (failures : W → ℕ) (first middle last : W) (before between after : Lines) → Proceeds contents passed_on failures first middle before between → after.failures ≡ between.failures → failures last ≡ failures middle → Keeps (contents middle) (contents last) → ((last ≡ middle) × (after.unread ≡ between.unread)) ⊎ (passed_on last ≡ contents last) → Proceeds contents passed_on failures first last before after
proceeds_on contents passed_on failures first middle last before between after proceeds reads output kept passed = record {
  reads = reads ∙ proceeds.reads;
  output = output ∙ proceeds.output;
  kept = keeps_trans _ _ _ proceeds.kept kept;
  passed = passed_twice contents passed_on first middle last before.unread between.unread after.unread proceeds.passed passed;
}

-- what a call says where it gave something
pub gave_less : {A : Type 0} (given : Option A) (value : A) (old new : ℕ) → given ≡ Some value → LeavesLess (Ok given) old new → new < old
gave_less given value old new is less = subst (λ some. LeavesLess (Ok some) old new) is less

pub gave_passed : {A : Type 0} (given : Option A) (value : A) (Untouched Passed : Type 0) → given ≡ Some value → PassesOn (Ok given) Untouched Passed → Untouched ⊎ Passed
gave_passed given value Untouched Passed is passes = subst (λ some. PassesOn (Ok some) Untouched Passed) is passes
