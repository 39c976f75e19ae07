-- Which writer is refused, and what is true of one that isn't.
use Rattle.pim_form.proofs.Words.{◌≡◌, ◌∙◌, ◌≤◌, ◌<◌, ◌^◌, Bool, true, false, ◌||◌, not, nat_lt, ◌++◌, Result, Ok, Err, refl, sym}
use Rattle.pim_form.proofs.Words.{subst, false≢true, not-false, lt-ltb, le-ltb, ltb-false, AddressFamily, IsAddress, is_source}
use Rattle.pim_form.proofs.Words.{same_address, Writing, IsWriting, has_bad_address, writer_faults}
use Rattle.pim_addr.specs.Faults.{fault_if, judged}
use Rattle.pim_form.specs.declared.writer.WriterFault.{WriterFault}
use Rattle.pim_form.specs.declared.writer.WriterFault.TheVariants.{Address, Holdtime, Budget}
use Rattle.pim_form.proofs.Addresses.{same_itself}

or_parts : (a b : Bool) → (a || b) ≡ false → (a ≡ false) × (b ≡ false)
or_parts true b h = absurd (false≢true (sym h))
or_parts false b h = (refl, h)

module _ {A E : Type 0} (a b c : Bool) (x y z : E) (value : A) where
  abbrev answer : Result A E
  answer = judged (fault_if a x ++ fault_if b y ++ fault_if c z) value

  first_told : a ≡ true → answer ≡ Err x
  first_told h = rw h refl

  second_told : a ≡ false → b ≡ true → answer ≡ Err y
  second_told h g = rw (h, g) refl

  third_told : a ≡ false → b ≡ false → c ≡ true → answer ≡ Err z
  third_told h g f = rw (h, g, f) refl

  none_told : a ≡ false → b ≡ false → c ≡ false → answer ≡ Ok value
  none_told h g f = rw (h, g, f) refl

module _ {A : Type 0} (family : AddressFamily) (writing : Writing) (value : A) where
  abbrev Told : WriterFault → Type 0
  Told fault = Err fault ≡ judged (writer_faults family writing) value

  pub address_told : has_bad_address family writing ≡ true → Told Address
  address_told h = sym (first_told (has_bad_address family writing) (nat_lt writing.holdtime 99) (nat_lt writing.budget 70 || nat_lt 65000 writing.budget) Address Holdtime Budget value h)

  pub holdtime_told : has_bad_address family writing ≡ false → writing.holdtime < 99 → Told Holdtime
  holdtime_told h less = sym (second_told (has_bad_address family writing) (nat_lt writing.holdtime 99) (nat_lt writing.budget 70 || nat_lt 65000 writing.budget) Address Holdtime Budget value h (lt-ltb writing.holdtime 99 less))

  outside : (least most : Bool) → (least ≡ false → most ≡ false → ⊥) → (least || most) ≡ true
  outside true most clash = refl
  outside false true clash = refl
  outside false false clash = absurd (clash refl refl)

  pub budget_told : has_bad_address family writing ≡ false → 99 ≤ writing.holdtime → (70 ≤ writing.budget → writing.budget ≤ 65000 → ⊥) → Told Budget
  budget_told h long clash =
      let tests = outside (nat_lt writing.budget 70) (nat_lt 65000 writing.budget)
      (λ least most. clash (ltb-false writing.budget 70 least) (ltb-false 65000 writing.budget most)) in
      sym
      (third_told (has_bad_address family writing) (nat_lt writing.holdtime 99) (nat_lt writing.budget 70 || nat_lt 65000 writing.budget) Address Holdtime Budget value h (le-ltb writing.holdtime 99 long) tests)

  pub taken : has_bad_address family writing ≡ false → 99 ≤ writing.holdtime → 70 ≤ writing.budget → writing.budget ≤ 65000 → Ok value ≡ judged (writer_faults family writing) value
  taken h long least most =
      let inside : (nat_lt writing.budget 70 || nat_lt 65000 writing.budget) ≡ false =
      rw (le-ltb writing.budget 70 least, le-ltb 65000 writing.budget most) refl in
      sym (none_told (has_bad_address family writing) (nat_lt writing.holdtime 99) (nat_lt writing.budget 70 || nat_lt 65000 writing.budget) Address Holdtime Budget value h (le-ltb writing.holdtime 99 long) inside)

pub is_writing : (family : AddressFamily) (writing : Writing) → IsAddress family writing.upstream → IsAddress family writing.own → has_bad_address family writing ≡ false
    → 99 ≤ writing.holdtime → writing.holdtime < 2 ^ 16 → 70 ≤ writing.budget → writing.budget ≤ 65000 → IsWriting family writing
is_writing family writing upstream own h long short least most =
    let front = or_parts (not (is_source family writing.upstream) || not (is_source family writing.own)) (same_address writing.own writing.upstream) h in
    let sources = or_parts (not (is_source family writing.upstream)) (not (is_source family writing.own)) front.0 in
    record {
      upstream = (upstream, not-false (is_source family writing.upstream) sources.0);
      own = (own, not-false (is_source family writing.own) sources.1);
      apart = λ same. false≢true (sym front.1 ∙ subst (λ a. same_address writing.own a ≡ true) same (same_itself writing.own));
      long = long;
      short = short;
      least = least;
      most = most;
    }
