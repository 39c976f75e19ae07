-- The canonical messages of a normal form tell parts of it.
use Rattle.pim_mirror.proofs.Words.{◌≡◌, ◌∙◌, ℕ, true, false, List, [], ◌∷◌, ◌++◌, Option, None, Some, map, refl, sym, ap, subst}
use Rattle.pim_mirror.proofs.Words.{AllByRecursion, flat_map, false≢true, AddressFamily, IsGroupAddress, IsSourceAddress}
use Rattle.pim_mirror.proofs.Words.{GroupForm, AreAscending, AreExceptions, is_empty, IsNormalGroup, IsNormal, WantUnit}
use Rattle.pim_mirror.proofs.Words.{star_unit, source_unit, star_units, group_units, units_of, fits, joined, AreRuns, Writing}
use Rattle.pim_mirror.proofs.Words.{IsRp, IsRpOf, HaveRps, CarriesRun, CarryRuns, CarryParts, CanonicalMessagesCarryParts}
use Rattle.pim_mirror.proofs.ListParts.{all_append, all_front, all_behind, all_known, all_map, all_mapped}
use Rattle.pim_mirror.proofs.UnitOrder.{AreOrdered, ordered_front, ordered_behind, sources_ascend, form_ordered}

abbrev IsSome : GroupForm → Type 0
IsSome this = is_empty this.star this.sources ≡ false

module _ (family : AddressFamily) (rps : List ℕ → Option (List ℕ)) where
  -- ---- units of valid addresses, whose stars have RPs

  IsValidUnit : WantUnit → Type 0
  IsValidUnit (star_unit group exceptions) = IsGroupAddress family group × AreExceptions family (Some exceptions) × IsRp family (rps group)
  IsValidUnit (source_unit group source) = IsGroupAddress family group × IsSourceAddress family source

  source_valid : (group : List ℕ) → IsGroupAddress family group → (source : List ℕ) → IsSourceAddress family source → IsValidUnit (source_unit group source)
  unfolding IsValidUnit
  source_valid group is source is_source = (is, is_source)

  star_valid : (group : List ℕ) (star : Option (List (List ℕ))) → IsGroupAddress family group → AreExceptions family star → IsRpOf family (rps group) star → AllByRecursion IsValidUnit (star_units group star)
  unfolding IsValidUnit
  star_valid group None is are rp = tt
  star_valid group (Some exceptions) is are rp = ((is, are, rp), tt)

  units_valid : (form : List GroupForm) → AllByRecursion (IsNormalGroup family) form → HaveRps family rps form → AllByRecursion IsValidUnit (units_of form)
  units_valid [] are have = tt
  units_valid (this ∷ form) are have =
      all_append IsValidUnit (group_units this) (units_of form)
      (all_append IsValidUnit (star_units this.group this.star) (map (source_unit this.group) this.sources)
      (star_valid this.group this.star are.0.group are.0.exceptions have.0)
      (all_map (IsSourceAddress family) IsValidUnit (source_unit this.group) (source_valid this.group are.0.group) this.sources are.0.sources))
      (units_valid form are.1 have.1)

  -- ---- and back to groups

  valid_source : (group source : List ℕ) → IsValidUnit (source_unit group source) → IsSourceAddress family source
  unfolding IsValidUnit
  valid_source group source is = is.1

  valid_group : (group : List ℕ) (star : Option (List (List ℕ))) (sources : List (List ℕ)) → is_empty star sources ≡ false → AllByRecursion IsValidUnit (star_units group star ++ map (source_unit group) sources) → IsGroupAddress family group
  unfolding IsValidUnit
  valid_group group None [] some valid = absurd (false≢true (sym some))
  valid_group group None (source ∷ sources) some valid = valid.0.0
  valid_group group (Some exceptions) sources some valid = valid.0.0

  valid_exceptions : (group : List ℕ) (star : Option (List (List ℕ))) → AllByRecursion IsValidUnit (star_units group star) → AreExceptions family star
  unfolding IsValidUnit
  valid_exceptions group None valid = tt
  valid_exceptions group (Some exceptions) valid = valid.0.1

  valid_rp : (group : List ℕ) (star : Option (List (List ℕ))) → AllByRecursion IsValidUnit (star_units group star) → IsRpOf family (rps group) star
  unfolding IsValidUnit
  valid_rp group None valid = tt
  valid_rp group (Some exceptions) valid = valid.0.2

  normal_group : (this : GroupForm) → IsSome this → AllByRecursion IsValidUnit (group_units this) → AreOrdered (group_units this) → IsNormalGroup family this
  normal_group this some valid ordered =
      let sources = map (source_unit this.group) this.sources in
      record {
        group = valid_group this.group this.star this.sources some valid;
        exceptions = valid_exceptions this.group this.star (all_front IsValidUnit (star_units this.group this.star) sources valid);
        ascending = sources_ascend this.group this.sources (ordered_behind (star_units this.group this.star) sources ordered);
        sources = all_mapped (IsSourceAddress family) IsValidUnit (source_unit this.group) (valid_source this.group) this.sources (all_behind IsValidUnit (star_units this.group this.star) sources valid);
        some = some;
      }

  normal_groups : (part : List GroupForm) → AllByRecursion IsSome part → AllByRecursion IsValidUnit (units_of part) → AreOrdered (units_of part) → AllByRecursion (IsNormalGroup family) part
  normal_groups [] some valid ordered = tt
  normal_groups (this ∷ part) some valid ordered = (
    normal_group this some.0 (all_front IsValidUnit (group_units this) (units_of part) valid) (ordered_front (group_units this) (units_of part) ordered),
    normal_groups part some.1 (all_behind IsValidUnit (group_units this) (units_of part) valid) (ordered_behind (group_units this) (units_of part) ordered),
  )

  have_rps : (part : List GroupForm) → AllByRecursion IsValidUnit (units_of part) → HaveRps family rps part
  have_rps [] valid = tt
  have_rps (this ∷ part) valid = (
    valid_rp this.group this.star (all_front IsValidUnit (star_units this.group this.star) (map (source_unit this.group) this.sources) (all_front IsValidUnit (group_units this) (units_of part) valid)),
    have_rps part (all_behind IsValidUnit (group_units this) (units_of part) valid),
  )

  -- ---- one part for each run

  module _ (writing : Writing) where
    record HaveParts (runs : List (List WantUnit)) (messages : List (List ℕ)) : Type 0 where
      parts : List (List GroupForm)
      normal : AllByRecursion (IsNormal family) parts
      have : AllByRecursion (HaveRps family rps) parts
      fitting : AllByRecursion (λ part. fits family writing.budget (units_of part) ≡ true) parts
      whole : flat_map units_of parts ≡ joined runs
      reported : CarryParts family writing rps parts messages

    one_more : (run : List WantUnit) (runs : List (List WantUnit)) (bytes : List ℕ) (messages : List (List ℕ)) → CarriesRun family writing rps run bytes → fits family writing.budget run ≡ true
        → AllByRecursion IsValidUnit run → AreOrdered run → HaveParts runs messages → HaveParts (run ∷ runs) (bytes ∷ messages)
    unfolding CarryParts
    one_more run runs bytes messages carries fitting valid ordered others =
        let valid_units = subst (AllByRecursion IsValidUnit) (sym carries.units) valid in
        let ordered_units = subst AreOrdered (sym carries.units) ordered in
        record {
          parts = carries.part ∷ others.parts;
          normal = (record { ascending = carries.ascending; groups = normal_groups carries.part carries.some valid_units ordered_units }, others.normal);
          have = (have_rps carries.part valid_units, others.have);
          fitting = (subst (λ (units : List WantUnit). fits family writing.budget units ≡ true) (sym carries.units) fitting, others.fitting);
          whole = ap (λ (units : List WantUnit). units ++ flat_map units_of others.parts) carries.units ∙ ap (λ (units : List WantUnit). run ++ units) others.whole;
          reported = (carries.sealed, others.reported);
        }

    cut : (runs : List (List WantUnit)) (messages : List (List ℕ)) → CarryRuns family writing rps runs messages → AreRuns family writing.budget runs
        → AllByRecursion IsValidUnit (joined runs) → AreOrdered (joined runs) → HaveParts runs messages
    unfolding AreRuns CarryParts
    cut [] [] reported are valid ordered = record { parts = []; normal = tt; have = tt; fitting = tt; whole = refl; reported = tt }
    cut [] (bytes ∷ messages) reported are valid ordered = absurd reported
    cut (run ∷ runs) [] reported are valid ordered = absurd reported
    cut (run ∷ runs) (bytes ∷ messages) reported are valid ordered =
        one_more run runs bytes messages reported.0 are.1 (all_front IsValidUnit run (joined runs) valid) (ordered_front run (joined runs) ordered)
        (cut runs messages reported.1 are.3 (all_behind IsValidUnit run (joined runs) valid) (ordered_behind run (joined runs) ordered))

pub in_order : (family : AddressFamily) (form : List GroupForm) → IsNormal family form → AreOrdered (units_of form)
in_order family form is = form_ordered form is.ascending (all_known (IsNormalGroup family) (λ (this : GroupForm). AreAscending this.sources) (λ this normal. normal.ascending) form is.groups)

pub messages_tell : CanonicalMessagesCarryParts
messages_tell family writing rps form messages is have are =
    let found = cut family rps writing are.runs messages are.reported are.packing.cut
    (subst (AllByRecursion (IsValidUnit family rps)) (sym are.packing.whole) (units_valid family rps form is.groups have))
    (subst AreOrdered (sym are.packing.whole) (in_order family form is)) in
    (found.parts, record { normal = found.normal; have = found.have; fitting = found.fitting; whole = found.whole ∙ are.packing.whole; reported = found.reported })
