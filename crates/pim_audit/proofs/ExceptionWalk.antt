-- A walk over the (S,G,rpt) machines that a port holds of a group. It begins at a source of zeros,
-- which comes before each valid one.
use Rattle.pim_audit.proofs.GatherWords.{◌≡◌, ◌∙◌, ℕ, zero, suc, ◌<◌, not, inl, inr, true, false, List, [], ◌∷◌}
use Rattle.pim_audit.proofs.GatherWords.{length, take, refl, sym, ap, subst, arith, false≢true, AllByRecursion, is_some, is_lt}
use Rattle.pim_audit.proofs.GatherWords.{Less, nat_cmp, ordering_then, AddressFamily, What, Rpt, Record, Key, address_cmp}
use Rattle.pim_audit.proofs.GatherWords.{what_cmp, same_key, HasSource, IsReal, None, state_on}
use Rattle.std.proofs.Common.{replicate}
use Rattle.std.proofs.lemmas.Bool.{lt-ltb}
use Rattle.pim_addr.specs.Address.{IsSourceAddress, address_length, is_unspecified}
use Rattle.pim_addr.specs.declared.family.AddressFamily.TheVariants.{Ipv4, Ipv6}
use Rattle.pim_down.specs.After.{MachinesLeft, next_machine}
use Rattle.pim_audit.specs.declared.machine.GroupMachine.{GroupMachine}
use Rattle.pim_audit.specs.Touched.{is_one_of}
use Rattle.pim_audit.specs.Watched.{MachinesGrow}
use Rattle.pim_audit.proofs.Gather.{and_both}
use Rattle.pim_audit.proofs.CoveredDues.{not_is}
use Rattle.pim_audit.proofs.HeldMachines.{by_test, one_key, held_later, none_held, key_of, walk, IsPassed, Steps, all_passed}

-- ---- the source of zeros

abbrev pub zeros : AddressFamily → List ℕ
zeros family = take (address_length family) (replicate 16 0)

-- a list of zeros comes before each other list of its length
zeros_first : (none some : List ℕ) → AllByRecursion (λ b. b ≡ 0) none → length none ≡ length some → is_unspecified some ≡ false
    → address_cmp none some ≡ Less
zeros_first [] [] all long is = absurd (false≢true (sym is))
zeros_first [] (b ∷ bs) all long is = absurd (omega (arith, long))
zeros_first (z ∷ zs) [] all long is = absurd (omega (arith, long))
zeros_first (z ∷ zs) (zero ∷ bs) all long is =
    ap (λ n. ordering_then (nat_cmp n 0) (address_cmp zs bs)) all.0 ∙ zeros_first zs bs all.1 (omega (arith, long)) is
zeros_first (z ∷ zs) (suc b ∷ bs) all long is =
    let above : 0 < suc b = omega arith in
    ap (λ n. ordering_then (nat_cmp n (suc b)) (address_cmp zs bs)) all.0 ∙ rw (lt-ltb 0 (suc b) above) refl

all_zeros : (count : ℕ) → AllByRecursion (λ (b : ℕ). b ≡ 0) (replicate count 0)
all_zeros zero = tt
all_zeros (suc count) = (refl, all_zeros count)

pub zeros_below : (family : AddressFamily) (source : List ℕ) → IsSourceAddress family source → address_cmp (zeros family) source ≡ Less
zeros_below Ipv4 source is =
    zeros_first (zeros Ipv4) source (all_zeros 4) (sym is.0.0)
    (not_is (is_unspecified source) (and_both _ (not (is_unspecified source)) is.1).1)
zeros_below Ipv6 source is =
    zeros_first (zeros Ipv6) source (all_zeros 16) (sym is.0.0)
    (not_is (is_unspecified source) (and_both _ (not (is_unspecified source)) is.1).1)

-- ---- the walk

-- the source of an exception that is held is valid
valid_source : (family : AddressFamily) (ports port : ℕ) (group source : List ℕ) (records : List (Record (List ℕ)))
    → AllByRecursion (IsReal family ports) records → is_some (state_on records port group (Rpt source)) ≡ true → IsSourceAddress family source
valid_source family ports port group source [] real held = absurd (none_held port group (Rpt source) held)
valid_source family ports port group source (first ∷ records) real held =
    by_test (same_key (key_of port group (Rpt source)) first.key)
    (λ e. valid_first first.key.what (ap (λ (k : Key (List ℕ)). k.what) (one_key (key_of port group (Rpt source)) first.key e)) real.0.source)
    (λ e. valid_source family ports port group source records real.1 (held_later port group (Rpt source) first records e held))
  where
    valid_first : (what : What (List ℕ)) → Rpt source ≡ what → HasSource family what → IsSourceAddress family source
    valid_first what e valid = subst (λ (w : What (List ℕ)). HasSource family w) (sym e) valid

module _ (port : ℕ) (group : List ℕ) (records : List (Record (List ℕ))) where
  -- each exception that is passed is one of the machines
  abbrev pub HasPassed : What (List ℕ) → List (GroupMachine (List ℕ)) → Type 0
  HasPassed behind machines = (source : List ℕ) → IsPassed port group records behind (Rpt source) → is_one_of group (Rpt source) machines ≡ true

  none_yet : (family : AddressFamily) (ports : ℕ) → AllByRecursion (IsReal family ports) records → (machines : List (GroupMachine (List ℕ)))
      → HasPassed (Rpt (zeros family)) machines
  unfolding what_cmp
  none_yet family ports real machines source passed =
      absurd (false≢true (sym passed.1 ∙ ap is_lt (zeros_below family source (valid_source family ports port group source records real passed.0))))

  pub has_next : (left next : MachinesLeft) (given : What (List ℕ)) (before after : List (GroupMachine (List ℕ)))
      → Steps port group records left next given → HasPassed left.behind.what before → MachinesGrow before after
      → is_one_of group given after ≡ true → HasPassed next.behind.what after
  has_next left next given before after step has grows added source passed =
      let now : IsPassed port group records given (Rpt source) =
      subst (λ (w : What (List ℕ)). IsPassed port group records w (Rpt source)) step.what passed in
      elim (step.passes (Rpt source) now) as (λ _. is_one_of group (Rpt source) after ≡ true) [
        | inl early ↦ grows group (Rpt source) (has source early)
        | inr one ↦ subst (λ (w : What (List ℕ)). is_one_of group w after ≡ true) (sym one) added
      ]

  pub has_all_held : (left : MachinesLeft) (machines : List (GroupMachine (List ℕ))) → left ≡ walk port group records left.behind.what
      → next_machine left ≡ None → HasPassed left.behind.what machines
      → (source : List ℕ) → is_some (state_on records port group (Rpt source)) ≡ true → is_one_of group (Rpt source) machines ≡ true
  has_all_held left machines walks none has source held =
      has source (all_passed port group records left walks none (Rpt source) held)

-- where it begins, none was passed
pub begins : (family : AddressFamily) (ports port : ℕ) (group : List ℕ) (records : List (Record (List ℕ)))
    → AllByRecursion (IsReal family ports) records → (left : MachinesLeft) (first : List ℕ) → first ≡ zeros family
    → left ≡ walk port group records (Rpt first) → (machines : List (GroupMachine (List ℕ)))
    → (left ≡ walk port group records left.behind.what) × HasPassed port group records left.behind.what machines
begins family ports port group records real left first is start machines =
    let what : left.behind.what ≡ Rpt first = ap (λ (m : MachinesLeft). m.behind.what) start in (
      start ∙ ap (walk port group records) (sym what),
      subst (λ (w : What (List ℕ)). HasPassed port group records w machines) (sym (what ∙ ap (λ (a : List ℕ). Rpt a) is))
          (none_yet port group records family ports real machines),
    )
