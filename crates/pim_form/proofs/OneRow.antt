-- Where one row leads all addresses to one neighbour.
use Rattle.pim_form.proofs.Words.{◌≡◌, ◌∙◌, ℕ, zero, suc, Bool, true, false, ◌&&◌, ◌||◌, not, List, Option, None, Some}
use Rattle.pim_form.proofs.Words.{refl, sym, ap, false≢true, AddressFamily, IsAddress, IsGroupAddress, RouteTable}
use Rattle.pim_form.proofs.Words.{IsRouteTable, rp_of, Star, Rpt, Downstream, is_joined, is_pruned, state_on, wants_on}
use Rattle.pim_form.proofs.Words.{some_below, wants, Agree, GroupForm, IsFormOf, IsRp, via_of, star_rpf_neighbour}
use Rattle.pim_form.proofs.Words.{rpf_neighbour, is_neighbour, demand_toward, StarsHaveRps, DemandsAll}
use Rattle.pim_form.specs.declared.tree.Tree.TheVariants.{Shared, Source}
use Rattle.pim_form.proofs.Addresses.{same_itself}
use Rattle.pim_form.proofs.AskedForAll.{first_true}
use Rattle.pim_form.proofs.OneForm.{one_form}
use Rattle.pim_form.proofs.TableRps.{rp_is_source}

record Below (test : ℕ → Bool) : Type 0 where
  port : ℕ
  passes : test port ≡ true

below : (count : ℕ) (test : ℕ → Bool) → some_below count test ≡ true → Below test
unfolding some_below
below zero test some = absurd (false≢true some)
below (suc count) test some =
    let others = below count test in
    elim (test count) as (λ t. test count ≡ t → (t || some_below count test) ≡ true → Below test) [
      | true ↦ λ e found. record { port = count; passes = e }
      | false ↦ λ e found. others found
    ] refl some

and_known : (a b : Bool) → (a ≡ true → b ≡ true) → (a && b) ≡ a
and_known true b h = h refl
and_known false b h = refl

module _ (family : AddressFamily) (table : RouteTable) (neighbour : List ℕ) (state : Downstream) (sound : IsRouteTable family table)
    (all : (address : List ℕ) → IsAddress family address → via_of family table address ≡ Some neighbour) (have : StarsHaveRps family table state) where
  reached : (address : List ℕ) → IsAddress family address → is_neighbour neighbour (via_of family table address) ≡ true
  reached address is = ap (is_neighbour neighbour) (all address is) ∙ same_itself neighbour

  rp_reached : (rp : Option (List ℕ)) → IsRp family rp → is_neighbour neighbour (star_rpf_neighbour (via_of family table) rp) ≡ true
  rp_reached None is = absurd is
  rp_reached (Some rp) is = reached rp is.0

  star_reached : (source group : List ℕ) → IsGroupAddress family group → wants state source group Shared ≡ true
      → is_neighbour neighbour (star_rpf_neighbour (via_of family table) (rp_of family table group)) ≡ true
  star_reached source group is_group wanted =
      let found = below state.ports (wants_on state.records source group Shared) wanted in
      let joined = first_true (is_joined (state_on state.records found.port group Star)) (not (is_pruned (state_on state.records found.port group (Rpt source)))) found.passes in
      rp_reached (rp_of family table group) (rp_is_source family table group sound (have found.port group is_group joined))

  agree : Agree family (demand_toward family table neighbour state) (wants state)
  agree source group Shared is is_group =
      and_known (wants state source group Shared) (is_neighbour neighbour (rpf_neighbour (rp_of family table) (via_of family table) source group Shared)) (λ wanted. star_reached source group is_group wanted)
  agree source group Source is is_group =
      and_known (wants state source group Source) (is_neighbour neighbour (rpf_neighbour (rp_of family table) (via_of family table) source group Source)) (λ wanted. reached source is.0)

  wanted_form : (form : List GroupForm) → IsFormOf family (demand_toward family table neighbour state) form → IsFormOf family (wants state) form
  wanted_form form is = record { normal = is.normal; wants = λ s g t valid is_group. sym (agree s g t valid is_group) ∙ is.wants s g t valid is_group }

  demanded_form : (form : List GroupForm) → IsFormOf family (wants state) form → IsFormOf family (demand_toward family table neighbour state) form
  demanded_form form is = record { normal = is.normal; wants = λ s g t valid is_group. agree s g t valid is_group ∙ is.wants s g t valid is_group }

  pub asks_for_all : DemandsAll family table neighbour state
  asks_for_all = record {
    agree = agree;
    forms = λ form. (wanted_form form, demanded_form form);
    one = λ demanded wanted is_asked is_wanted. one_form family demanded wanted is_asked.normal is_wanted.normal (λ s g t valid is_group.
        sym (is_asked.wants s g t valid is_group) ∙ agree s g t valid is_group ∙ is_wanted.wants s g t valid is_group);
  }
