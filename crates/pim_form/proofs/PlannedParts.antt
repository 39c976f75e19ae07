-- The parts of a plan fit messages, and their stars have RPs where those of the form have.
use Rattle.pim_form.proofs.Words.{ℕ, List, [], ◌∷◌, map, sym, subst, Option, AllByRecursion, AddressFamily, GroupPlace}
use Rattle.pim_form.proofs.Words.{GroupForm, IsNormal, units_of, joined, AreRuns, HaveRps, form_seen, IsKept}
use Rattle.pim_form.proofs.Words.{parts_from, run_of, IsPlan, IsFitting, PartHasRps}
use Rattle.pim_form.proofs.Lists.{all_front, all_behind}
use Rattle.pim_form.proofs.Normal.{groups_some}
use Rattle.pim_form.proofs.Spelled.{IsValid, IsValidUnit, units_valid, parts_valid, rp_here}

module _ (family : AddressFamily) (rps : List ℕ → Option (List ℕ)) where
  valid_have : (part : List GroupForm) → AllByRecursion (IsValid family rps) part → HaveRps family rps part
  valid_have [] all = tt
  valid_have (this ∷ part) all = (rp_here family rps this all.0, valid_have part all.1)

  -- a part whose units are valid
  units_have : (part : List GroupForm) → IsNormal family part → AllByRecursion (IsValidUnit family rps) (units_of part) → HaveRps family rps part
  units_have part normal valid = valid_have part (parts_valid family rps part (groups_some family part normal.groups) valid)

module _ {A : Type 0} (bytes_of : A → List ℕ) (family : AddressFamily) (row : List A) where
  parts_fitting : (budget : ℕ) (parts : List (List (GroupPlace A))) → AllByRecursion (IsKept bytes_of family row) parts → AreRuns family budget (map (run_of bytes_of row) parts) → AllByRecursion (IsFitting bytes_of family budget row) parts
  unfolding AreRuns
  parts_fitting budget [] kept cut = tt
  parts_fitting budget (part ∷ parts) kept cut = (record { kept = kept.0; fitting = cut.1 }, parts_fitting budget parts kept.1 cut.3)

  parts_have : (rps : List ℕ → Option (List ℕ)) (parts : List (List (GroupPlace A))) → AllByRecursion (IsKept bytes_of family row) parts → AllByRecursion (IsValidUnit family rps) (joined (map (run_of bytes_of row) parts))
      → AllByRecursion (PartHasRps bytes_of family rps row) parts
  parts_have rps [] kept valid = tt
  parts_have rps (part ∷ parts) kept valid = (
    units_have family rps (form_seen bytes_of row part) kept.0.normal (all_front (IsValidUnit family rps) (run_of bytes_of row part) (joined (map (run_of bytes_of row) parts)) valid),
    parts_have rps parts kept.1 (all_behind (IsValidUnit family rps) (run_of bytes_of row part) (joined (map (run_of bytes_of row) parts)) valid),
  )

  module _ (budget : ℕ) (places pieces : List (GroupPlace A)) (ends : List ℕ) (plan : IsPlan bytes_of family budget row places pieces ends) where
    pub plan_fits : AllByRecursion (IsFitting bytes_of family budget row) (parts_from 0 ends pieces)
    plan_fits = parts_fitting budget (parts_from 0 ends pieces) plan.kept plan.packing.cut

    pub plan_has_rps : (rps : List ℕ → Option (List ℕ)) → IsNormal family (form_seen bytes_of row places) → HaveRps family rps (form_seen bytes_of row places) → AllByRecursion (PartHasRps bytes_of family rps row) (parts_from 0 ends pieces)
    plan_has_rps rps normal have =
        parts_have rps (parts_from 0 ends pieces) plan.kept
        (subst (AllByRecursion (IsValidUnit family rps)) (sym plan.packing.whole) (units_valid family rps (form_seen bytes_of row places) normal.groups have))
