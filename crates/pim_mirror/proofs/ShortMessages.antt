-- Canonical messages are within their writer's budget.
use Rattle.pim_mirror.proofs.Words.{◌≡◌, ◌≤◌, ℕ, true, List, [], ◌∷◌, length, nat_le, arith, Option, AllByRecursion}
use Rattle.pim_mirror.proofs.Words.{leb-true, AddressFamily, SizeIsLength, Writing, IsWriting, HaveRps, GroupForm}
use Rattle.pim_mirror.proofs.Words.{IsNormal, fits, most_groups, units_of, run_size, run_groups, CarryParts}
use Rattle.pim_mirror.proofs.Words.{CanonicalMessagesCarryParts, CanonicalMessagesAreShort}
use Rattle.pim_mirror.proofs.Listed.{both}

module _ (size : SizeIsLength) (family : AddressFamily) (writing : Writing) (rps : List ℕ → Option (List ℕ)) (is : IsWriting family writing) where
  each_fits : (parts : List (List GroupForm)) (messages : List (List ℕ)) → AllByRecursion (IsNormal family) parts → AllByRecursion (HaveRps family rps) parts →
      AllByRecursion (λ (part : List GroupForm). fits family writing.budget (units_of part) ≡ true) parts → CarryParts family writing rps parts messages →
      AllByRecursion (λ (message : List ℕ). length message ≤ writing.budget) messages
  unfolding CarryParts
  each_fits [] [] normal have fitting reported = tt
  each_fits [] (bytes ∷ messages) normal have fitting reported = absurd reported
  each_fits (part ∷ parts) [] normal have fitting reported = absurd reported
  each_fits (part ∷ parts) (bytes ∷ messages) normal have fitting reported =
      let long = size family writing rps part bytes is normal.0 have.0 fitting.0 reported.0 in
      let within = leb-true (run_size family (units_of part)) writing.budget (both (nat_le (run_size family (units_of part)) writing.budget) (nat_le (run_groups (units_of part)) most_groups) fitting.0).0 in
      (omega (arith, long, within), each_fits parts messages normal.1 have.1 fitting.1 reported.1)

pub messages_are_short : SizeIsLength → CanonicalMessagesCarryParts → CanonicalMessagesAreShort
messages_are_short size tell family writing rps form messages is normal have canonical =
    let parts = tell family writing rps form messages normal have canonical in
    each_fits size family writing rps is parts.0 messages parts.1.normal parts.1.have parts.1.fitting parts.1.reported
