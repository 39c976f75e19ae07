-- Units of one group that stand together are one set.
use Rattle.pim_change.proofs.Words.{◌≡◌, ◌∙◌, ℕ, zero, suc, ◌<◌, ◌≤◌, Bool, true, false, List, [], ◌∷◌, length, take}
use Rattle.pim_change.proofs.Words.{drop, get_or, refl, sym, ap, subst, arith, AllByRecursion, same_address, Action}
use Rattle.pim_change.proofs.Words.{ChangeUnit, unit_of, action_seen, actions_seen, unit_seen, units_seen, GroupActions}
use Rattle.pim_change.proofs.Words.{actions_of, set_in_front, in_front, grouped}
use Rattle.pim_change.specs.declared.unit.Unit.{Unit as UnitOf}
use Rattle.pim_change.proofs.Addresses.{same_itself}

-- sets whose first is of this group
pub record StartsWith (group : List ℕ) (parts : List GroupActions) : Type 0 where
  pub first : GroupActions
  pub others : List GroupActions
  pub is : parts ≡ first ∷ others
  pub of_group : first.group ≡ group

set_starts : (b : Bool) (this : ChangeUnit) (first : GroupActions) (others : List GroupActions)
    → StartsWith this.group (set_in_front b this first others)
set_starts true this first others =
    record {
      first = actions_of this.group (this.action ∷ first.actions);
      others = others;
      is = refl;
      of_group =
          refl;
    }
set_starts false this first others =
    record { first = actions_of this.group (this.action ∷ []); others = first ∷ others; is = refl; of_group = refl }

pub starts : (this : ChangeUnit) (parts : List GroupActions) → StartsWith this.group (in_front this parts)
starts this [] =
    record { first = actions_of this.group (this.action ∷ []); others = []; is = refl; of_group = refl }
starts this (first ∷ others) = set_starts (same_address this.group first.group) this first others

-- in front of sets that begin with another group, a unit has a set of its own
apart : (this : ChangeUnit) (group : List ℕ) (parts : List GroupActions) → StartsWith group parts
    → same_address this.group group ≡ false → in_front this parts ≡ actions_of this.group (this.action ∷ []) ∷ parts
apart this group parts start other =
    let is_other : same_address this.group start.first.group ≡ false =
    ap (same_address this.group) start.of_group ∙ other in
    let own : in_front this (start.first ∷ start.others)
    ≡ actions_of this.group (this.action ∷ []) ∷ start.first ∷ start.others =
    ap (λ (b : Bool). set_in_front b this start.first start.others) is_other in
    subst (λ (l : List GroupActions). in_front this l ≡ actions_of this.group (this.action ∷ []) ∷ l)
    (sym start.is) own

module _ {A : Type 0} (bytes_of : A → List ℕ) (group : List ℕ) where
  -- all these units are of the group
  abbrev pub AreOfGroup : List (UnitOf A) → Type 0
  AreOfGroup units = AllByRecursion (λ (this : UnitOf A). bytes_of this.group ≡ group) units

  -- the first of these isn't
  abbrev pub Leaves : List (UnitOf A) → Type 0
  Leaves [] = Unit {0}
  Leaves (this ∷ units) = same_address group (bytes_of this.group) ≡ false

  pub all_of_group : (units : List (UnitOf A)) (n : ℕ) → length units ≤ n → n ≤ length units → AreOfGroup (take n units)
      → AreOfGroup (take (length units) units)
  all_of_group units n past within all =
      subst (λ (k : ℕ). AreOfGroup (take k units)) (omega (arith, past, within)) all

  pub leaves_at : (units : List (UnitOf A)) (n : ℕ) (d : UnitOf A) → n < length units
      → same_address group (bytes_of (get_or units n d).group) ≡ false → Leaves (drop n units)
  leaves_at [] n d below is = absurd (omega arith)
  leaves_at (unit ∷ units) zero d below is = is
  leaves_at (unit ∷ units) (suc n) d below is = leaves_at units n d (omega arith) is

  pub leaves_none : (units : List (UnitOf A)) (n : ℕ) → n ≡ length units → Leaves (drop n units)
  leaves_none [] zero all = tt
  leaves_none [] (suc n) all = absurd (omega arith)
  leaves_none (unit ∷ units) zero all = absurd (omega arith)
  leaves_none (unit ∷ units) (suc n) all = leaves_none units n (omega arith)

  joined_first : (action next : Action) (of : List ℕ) (actions : List Action) (others : List GroupActions)
      (units : List ChangeUnit) → of ≡ group
      → grouped (unit_of group next ∷ units) ≡ actions_of group actions ∷ others
      → grouped (unit_of group action ∷ unit_of of next ∷ units) ≡ actions_of group (action ∷ actions) ∷ others
  unfolding grouped
  joined_first action next of actions others units is set =
      ap (λ (g : List ℕ). grouped (unit_of group action ∷ unit_of g next ∷ units)) is
      ∙ ap (in_front (unit_of group action)) set
      ∙ ap (λ (b : Bool). set_in_front b (unit_of group action) (actions_of group actions) others)
      (same_itself group)

  -- a unit and those behind it of the same group are one set, in front of the sets of the others
  pub one_set : (action : Action) (units : List (UnitOf A)) (n : ℕ) → n ≤ length units → AreOfGroup (take n units)
      → Leaves (drop n units) → grouped (unit_of group action ∷ units_seen bytes_of units)
      ≡ actions_of group (action ∷ actions_seen bytes_of (take n units)) ∷ grouped
      (units_seen bytes_of (drop n units))
  unfolding grouped
  one_set action [] zero below all leaves = refl
  one_set action [] (suc n) below all leaves = absurd (omega arith)
  one_set action (unit ∷ units) zero below all leaves =
      apart (unit_of group action) (bytes_of unit.group) (grouped (units_seen bytes_of (unit ∷ units)))
      (starts (unit_seen bytes_of unit) (grouped (units_seen bytes_of units))) leaves
  one_set action (unit ∷ units) (suc n) below all leaves =
      joined_first action (action_seen bytes_of unit.action) (bytes_of unit.group)
      (actions_seen bytes_of (unit ∷ take n units)) (grouped (units_seen bytes_of (drop n units)))
      (units_seen bytes_of units) all.0
      (one_set (action_seen bytes_of unit.action) units n (omega arith) all.1 leaves)
