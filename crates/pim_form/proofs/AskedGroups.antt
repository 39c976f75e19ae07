-- What the form of what a neighbour is asked for has of each group.
use Rattle.pim_form.proofs.Words.{◌≡◌, ◌∙◌, ℕ, zero, suc, Bool, true, false, ◌||◌, ◌&&◌, not, cond, List, [], ◌∷◌, Option, None}
use Rattle.pim_form.proofs.Words.{Some, map, refl, sym, ap, subst, arith, both_true, AllByRecursion, IsStrictlySortedBy}
use Rattle.pim_form.proofs.Words.{false≢true, length-map, AddressFamily, IsGroupAddress, IsSourceAddress, RouteTable, rp_of, What}
use Rattle.pim_form.proofs.Words.{Star, Source, Rpt, Record, KeysAreDistinct, IsSound, Downstream, Tree, GroupForm, AreExceptions}
use Rattle.pim_form.proofs.Words.{IsNormalGroup, IsFormOf, AreAscending, same_address, is_listed, is_excepted, groups_of}
use Rattle.pim_form.proofs.Words.{group_wants, form_wants, exceptions_of, group_in, is_joined, is_pruned, state_on, wants_on}
use Rattle.pim_form.proofs.Words.{some_below, wants, of_port, collected, via_of, star_rpf_neighbour, rpf_neighbour, is_neighbour}
use Rattle.pim_form.proofs.Words.{demand_toward, form_below, demanded_form, HasDemand, IsDemandedForm}
use Rattle.std.specs.Option.{is_some}
use Rattle.pim_form.specs.declared.tree.Tree.TheVariants.{Shared, Source as SourceTree}
use Rattle.pim_form.proofs.Addresses.{same_is}
use Rattle.pim_form.proofs.AskedForAll.{first_true, second_true, or_second}
use Rattle.pim_form.proofs.CollectedWants.{port_form}
use Rattle.pim_form.proofs.Counting.{outside}
use Rattle.pim_form.proofs.KeptForm.{form_left}
use Rattle.pim_form.proofs.Merged.{merged_normal, merged_wants}
use Rattle.pim_form.proofs.OneForm.{at_first, of_others}
use Rattle.pim_form.proofs.PortDemand.{same_what, some_tell, state_tells, are_of_port}
use Rattle.pim_form.proofs.UnitCounts.{few_units}

-- ---- truth values

both_ways : (a b : Bool) → (a ≡ true → b ≡ true) → (b ≡ true → a ≡ true) → a ≡ b
both_ways true true f g = refl
both_ways true false f g = sym (f refl)
both_ways false true f g = g refl
both_ways false false f g = refl

neither : (p q : Bool) → (p || q) ≡ false → (p ≡ false) × (q ≡ false)
neither true q h = absurd (false≢true (sym h))
neither false q h = (refl, h)

-- ---- the group of a form

group_in_wants : (form : List GroupForm) (s group : List ℕ) (tree : Tree) → AreAscending (groups_of form) → form_wants form s group tree ≡ group_wants (group_in group form) s tree
unfolding group_in IsStrictlySortedBy
group_in_wants [] s group Shared up = refl
group_in_wants [] s group SourceTree up = refl
group_in_wants (this ∷ form) s group tree up = by (group_in_wants form s group tree up.1) (same_address group this.group) refl
  where
    by : form_wants form s group tree ≡ group_wants (group_in group form) s tree → (b : Bool) → same_address group this.group ≡ b → form_wants (this ∷ form) s group tree ≡ group_wants (cond (same_address group this.group) this (group_in group form)) s tree
    by others true e =
        ap (λ g. form_wants (this ∷ form) s g tree) (same_is group this.group e) ∙ at_first this form s tree up.0
        ∙ sym (ap (λ b. group_wants (cond b this (group_in group form)) s tree) e)
    by others false e =
        of_others this form s group tree e ∙ others
        ∙ sym (ap (λ b. group_wants (cond b this (group_in group form)) s tree) e)

exceptions_in : (family : AddressFamily) (form : List GroupForm) (group : List ℕ) → AllByRecursion (IsNormalGroup family) form → AreExceptions family (group_in group form).star
unfolding group_in
exceptions_in family [] group are = tt
exceptions_in family (this ∷ form) group are =
    elim (same_address group this.group) as (λ b. AreExceptions family (cond b this (group_in group form)).star) [
      | true ↦ are.0.exceptions
      | false ↦ exceptions_in family form group are.1
    ]

-- ---- stars

-- a source that a star leaves wanted
record LeftBy (family : AddressFamily) (star : Option (List (List ℕ))) : Type 0 where
  source : List ℕ
  valid : IsSourceAddress family source
  wanted : not (is_excepted source star) ≡ true

left_by : (family : AddressFamily) (star : Option (List (List ℕ))) → AreExceptions family star → is_some star ≡ true → LeftBy family star
left_by family None are some = absurd (false≢true some)
left_by family (Some exceptions) are some =
    let free = outside family exceptions are.2 in
    record { source = free.source; valid = free.valid; wanted = ap not free.apart }

some_star : (s : List ℕ) (star : Option (List (List ℕ))) → not (is_excepted s star) ≡ true → is_some star ≡ true
some_star s None wanted = wanted
some_star s (Some exceptions) wanted = refl

excepted_is : (s : List ℕ) (star : Option (List (List ℕ))) (wanted demanded : Bool) → is_some star ≡ true → demanded ≡ true → (wanted && demanded) ≡ not (is_excepted s star) → is_listed s (exceptions_of star) ≡ not wanted
excepted_is s None wanted demanded some e is = absurd (false≢true some)
excepted_is s (Some exceptions) wanted demanded some e is = turned (is_listed s exceptions) wanted (subst (λ a. (wanted && a) ≡ not (is_listed s exceptions)) e is)
  where
    turned : (listed wanted : Bool) → (wanted && true) ≡ not listed → listed ≡ not wanted
    turned true true h = h
    turned true false h = refl
    turned false true h = refl
    turned false false h = h

-- ---- what some port wants

some_weaker : (test other : ℕ → Bool) → ((n : ℕ) → test n ≡ true → other n ≡ true) → (count : ℕ) → some_below count test ≡ true → some_below count other ≡ true
unfolding some_below
some_weaker test other weaker zero some = some
some_weaker test other weaker (suc count) some =
    let others = some_weaker test other weaker count in
    elim (test count) as (λ t. test count ≡ t → (t || some_below count test) ≡ true → (other count || some_below count other) ≡ true) [
      | true ↦ λ e found. ap (λ t. t || some_below count other) (weaker count e)
      | false ↦ λ e found. or_second (other count) (some_below count other) (others found)
    ] refl some

-- the sources that records name
source_in : What (List ℕ) → List ℕ
source_in Star = []
source_in (Source s) = s
source_in (Rpt s) = s

named : List (Record (List ℕ)) → List (List ℕ)
named records = map (λ held. source_in held.key.what) records

not_named : (group s : List ℕ) (records : List (Record (List ℕ))) → is_listed s (named records) ≡ false → some_tell is_pruned group (Rpt s) records ≡ false
unfolding named source_in
not_named group s [] none = refl
not_named group s (held ∷ records) none =
    let parts = neither (same_address s (source_in held.key.what)) (is_listed s (named records)) none in
    rw (other held.key.what parts.0, not_named group s records parts.1) (nothing (same_address group held.key.group))
  where
    nothing : (p : Bool) → ((p && false) || false) ≡ false
    nothing true = refl
    nothing false = refl

    other : (what : What (List ℕ)) → same_address s (source_in what) ≡ false → same_what (Rpt s) what ≡ false
    other Star e = refl
    other (Source t) e = refl
    other (Rpt t) e = e

-- a source that is wanted on the shared tree
pub record WantedBelow (family : AddressFamily) (state : Downstream) (group : List ℕ) (count : ℕ) : Type 0 where
  pub source : List ℕ
  pub valid : IsSourceAddress family source
  pub wanted : some_below count (wants_on state.records source group Shared) ≡ true

module _ (apart : KeysAreDistinct) (family : AddressFamily) (state : Downstream) (sound : IsSound family state) where
  abbrev joined : List ℕ → ℕ → Bool
  joined group port = is_joined (state_on state.records port group Star)

  not_pruned : (port : ℕ) (group s : List ℕ) → is_listed s (named (of_port port state)) ≡ false → is_pruned (state_on state.records port group (Rpt s)) ≡ false
  not_pruned port group s none = state_tells apart is_pruned refl port group (Rpt s) state.records sound.ascending ∙ not_named group s (of_port port state) none

  pub wanted_below : (group : List ℕ) (count : ℕ) → some_below count (joined group) ≡ true → WantedBelow family state group count
  unfolding some_below named
  wanted_below group zero some = absurd (false≢true some)
  wanted_below group (suc count) some =
      let before = wanted_below group count in
      elim (joined group count) as (λ t. joined group count ≡ t → (t || some_below count (joined group)) ≡ true → WantedBelow family state group (suc count)) [
        | true ↦ λ e found.
            let port = are_of_port family state count sound in
            let few = port.few in
            let free = outside family (named (of_port count state)) (omega (arith, few, length-map (of_port count state) (λ held. source_in held.key.what))) in
            record {
              source = free.source;
              valid = free.valid;
              wanted = rw (e, not_pruned count group free.source free.apart) refl;
            }
        | false ↦ λ e found.
            let other = before found in
            record {
              source = other.source;
              valid = other.valid;
              wanted = or_second (wants_on state.records other.source group Shared count) (some_below count (wants_on state.records other.source group Shared)) other.wanted;
            }
      ] refl some

  joined_below : (group s : List ℕ) (count : ℕ) → some_below count (wants_on state.records s group Shared) ≡ true → some_below count (joined group) ≡ true
  joined_below group s = some_weaker (wants_on state.records s group Shared) (joined group) (λ port. first_true (joined group port) (not (is_pruned (state_on state.records port group (Rpt s)))))

  -- ---- the form

  pub below_form : (count : ℕ) → IsFormOf family (λ s group tree. some_below count (wants_on state.records s group tree)) (form_below count state)
  unfolding form_below some_below IsStrictlySortedBy
  below_form zero = record { normal = record { ascending = tt; groups = tt }; wants = λ s group tree valid is_group. refl }
  below_form (suc count) =
      let here = port_form apart family state count sound in
      let others = below_form count in
      record {
        normal = merged_normal family (collected (of_port count state)) (form_below count state) here.normal others.normal;
        wants = λ s group tree valid is_group.
            (λ i. here.wants s group tree valid is_group i || others.wants s group tree valid is_group i)
            ∙ sym (merged_wants (collected (of_port count state)) (form_below count state) s group tree);
      }

  module _ (table : RouteTable) (neighbour : List ℕ) where
    is_asked : IsFormOf family (demand_toward family table neighbour state) (demanded_form family table neighbour state)
    unfolding demanded_form
    is_asked =
        let rps = rp_of family table in
        let via = via_of family table in
        let below = below_form state.ports in
        let left = form_left rps via neighbour family (form_below state.ports state) below.normal in
        record {
          normal = left.normal;
          wants = λ s group tree valid is_group.
              ap (λ w. w && is_neighbour neighbour (rpf_neighbour rps via s group tree)) (below.wants s group tree valid is_group)
              ∙ left.wants s group tree valid is_group;
        }

    -- what is asked of a source of a group
    group_asked : (form : List GroupForm) → IsFormOf family (demand_toward family table neighbour state) form → (s group : List ℕ) (tree : Tree) → IsSourceAddress family s → IsGroupAddress family group
        → demand_toward family table neighbour state s group tree ≡ group_wants (group_in group form) s tree
    group_asked form is s group tree valid is_group = is.wants s group tree valid is_group ∙ group_in_wants form s group tree is.normal.ascending

    abbrev to_rp : List ℕ → Bool
    to_rp group = is_neighbour neighbour (star_rpf_neighbour (via_of family table) (rp_of family table group))

    has_star : (form : List GroupForm) → IsFormOf family (demand_toward family table neighbour state) form → (group : List ℕ) → IsGroupAddress family group
        → is_some (group_in group form).star ≡ (some_below state.ports (joined group) && to_rp group)
    has_star form is group is_group =
        both_ways (is_some (group_in group form).star) (some_below state.ports (joined group) && to_rp group)
        (λ some.
        let left = left_by family (group_in group form).star (exceptions_in family form group is.normal.groups) some in
        let demanded = group_asked form is left.source group Shared left.valid is_group ∙ left.wanted in
        both_true
        (joined_below group left.source state.ports (first_true (wants state left.source group Shared) (to_rp group) demanded))
        (second_true (wants state left.source group Shared) (to_rp group) demanded))
        (λ both.
        let found = wanted_below group state.ports (first_true (some_below state.ports (joined group)) (to_rp group) both) in
        let demanded : (wants state found.source group Shared && to_rp group) ≡ true = both_true found.wanted (second_true (some_below state.ports (joined group)) (to_rp group) both) in
        some_star found.source (group_in group form).star (sym (group_asked form is found.source group Shared found.valid is_group) ∙ demanded))

    has_asked : (form : List GroupForm) → IsFormOf family (demand_toward family table neighbour state) form → (group : List ℕ) → IsGroupAddress family group → HasDemand family table neighbour state group (group_in group form)
    has_asked form is group is_group = record {
      star = has_star form is group is_group;
      exceptions = λ some s valid.
          excepted_is s (group_in group form).star (wants state s group Shared) (to_rp group) some
          (second_true (some_below state.ports (joined group)) (to_rp group) (sym (has_star form is group is_group) ∙ some))
          (group_asked form is s group Shared valid is_group);
      sources = λ s valid. sym (group_asked form is s group SourceTree valid is_group);
    }

    pub is_asked_form : IsDemandedForm family table neighbour state (demanded_form family table neighbour state)
    is_asked_form = record {
      is = is_asked;
      groups = has_asked (demanded_form family table neighbour state) is_asked;
      few = few_units family state sound table neighbour;
    }
