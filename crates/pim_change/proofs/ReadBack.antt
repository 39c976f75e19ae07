-- The messages of a change are read back.
use Rattle.pim_change.proofs.Words.{◌≡◌, ◌≤◌, ◌+◌, ◌∙◌, ℕ, List, [], ◌∷◌, map, length, sym, ap, subst, arith, Option}
use Rattle.pim_change.proofs.Words.{AllByRecursion, flat_map, AddressFamily, checksum, framed, JoinPrune, IsMessage}
use Rattle.pim_change.proofs.Words.{canonical, canonical_head_length, canonical_sets_length, Message}
use Rattle.pim_change.proofs.Words.{SealedMessageIsRead, Writing, IsWriting, GroupForm, AreRuns, ChangeUnit, weights}
use Rattle.pim_change.proofs.Words.{written_message, CarryRuns, AreReadAsRuns, ChangeIsRead, ChangeMessagesAreShort}
use Rattle.pim_change.proofs.RunSizes.{within_budget}
use Rattle.pim_change.proofs.OneStar.{HasOneStar, runs_have_one_star}
use Rattle.pim_change.proofs.Spelled.{all_split, IsFairUnit, change_fair, run_spelled}

abbrev CanonicalHasItsLength : Type 0
CanonicalHasItsLength = (family : AddressFamily) (message : Message) → IsMessage family message → length (canonical family message) ≡ canonical_head_length family + canonical_sets_length family message.sets

module _ (reads : SealedMessageIsRead) (family : AddressFamily) (writing : Writing) (rps : List ℕ → Option (List ℕ)) (old new : List GroupForm) (is : IsWriting family writing) where
  all_read : (runs : List (List ChangeUnit)) (messages : List (List ℕ)) → AllByRecursion (IsFairUnit family rps old new) (flat_map (λ run. run) runs) → AllByRecursion HasOneStar runs
      → AreRuns family writing.budget (map weights runs) → CarryRuns family writing rps runs messages → AreReadAsRuns family writing rps runs messages
  unfolding AreRuns AreReadAsRuns
  all_read [] [] fair one cut reported = tt
  all_read [] (bytes ∷ messages) fair one cut reported = absurd reported
  all_read (run ∷ runs) [] fair one cut reported = absurd reported
  all_read (run ∷ runs) (bytes ∷ messages) fair one cut reported =
      let parts = all_split (IsFairUnit family rps old new) run (flat_map (λ r. r) runs) fair in (
        reads family writing.own (written_message writing rps run) bytes (run_spelled family rps old new writing run is parts.0 one.0 cut.1) reported.0,
        all_read runs messages parts.1 one.1 cut.3 reported.1,
      )

pub change_is_read : SealedMessageIsRead → ChangeIsRead
change_is_read reads family writing rps old new messages is normal_old normal_new have_old have_new reported = record {
  runs = reported.runs;
  whole = reported.packing.whole;
  read = all_read reads family writing rps old new is reported.runs messages
      (subst (AllByRecursion (IsFairUnit family rps old new)) (sym reported.packing.whole) (change_fair family rps old new normal_old normal_new have_old have_new))
      (runs_have_one_star old new reported.runs reported.packing.whole) reported.packing.cut reported.reported;
}

-- ---- and they are short

framed_length : (sum : ℕ) (body : List ℕ) → length (framed JoinPrune sum body) ≡ 4 + length body
framed_length sum body = omega arith

module _ (lengths : CanonicalHasItsLength) (family : AddressFamily) (writing : Writing) (rps : List ℕ → Option (List ℕ)) (old new : List GroupForm) (is : IsWriting family writing) where
  all_short : (runs : List (List ChangeUnit)) (messages : List (List ℕ)) → AllByRecursion (IsFairUnit family rps old new) (flat_map (λ run. run) runs) → AllByRecursion HasOneStar runs
      → AreRuns family writing.budget (map weights runs) → CarryRuns family writing rps runs messages → AllByRecursion (λ (message : List ℕ). length message ≤ writing.budget) messages
  unfolding AreRuns
  all_short [] [] fair one cut reported = tt
  all_short [] (bytes ∷ messages) fair one cut reported = absurd reported
  all_short (run ∷ runs) [] fair one cut reported = absurd reported
  all_short (run ∷ runs) (bytes ∷ messages) fair one cut reported =
      let parts = all_split (IsFairUnit family rps old new) run (flat_map (λ r. r) runs) fair in
      let body = lengths family (written_message writing rps run) (run_spelled family rps old new writing run is parts.0 one.0 cut.1) in
      let framed_is : length bytes ≡ 4 + length (canonical family (written_message writing rps run)) = ap length reported.0.0 ∙ framed_length (checksum bytes) (canonical family (written_message writing rps run)) in
      (omega (arith, framed_is, body, within_budget family writing.budget rps run is.most cut.1), all_short runs messages parts.1 one.1 cut.3 reported.1)

pub change_is_short : CanonicalHasItsLength → ChangeMessagesAreShort
change_is_short lengths family writing rps old new messages is normal_old normal_new have_old have_new reported =
    all_short lengths family writing rps old new is reported.runs messages
    (subst (AllByRecursion (IsFairUnit family rps old new)) (sym reported.packing.whole) (change_fair family rps old new normal_old normal_new have_old have_new))
    (runs_have_one_star old new reported.runs reported.packing.whole) reported.packing.cut reported.reported
