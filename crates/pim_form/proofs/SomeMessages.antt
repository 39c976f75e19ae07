-- A normal form has canonical messages exactly if no star is too big.
use Rattle.pim_form.proofs.Words.{◌≡◌, ◌∙◌, ◌↔◌, ℕ, ◌≤◌, ◌⊎◌, true, false, cond, List, [], ◌∷◌, ◌++◌, Option, None, Some, map}
use Rattle.pim_form.proofs.Words.{nat_le, refl, sym, ap, subst, inl, inr, arith, le-leb, and_from, Less, AllByRecursion}
use Rattle.pim_form.proofs.Words.{IsStrictlySortedBy, nat_cmp, slice_cmp, AddressFamily, Ipv4, Ipv6, all_routers}
use Rattle.pim_form.proofs.Words.{SomeMessageIsSealed, JoinPrune, canonical, GroupForm, AreAscending, IsNormal, groups_of}
use Rattle.pim_form.proofs.Words.{is_empty, WantUnit, star_unit, source_unit, star_units, group_units, units_of, run_entries}
use Rattle.pim_form.proofs.Words.{run_groups, groups_behind, run_size, most_groups, joined, Writing, IsWriting, CarryRuns}
use Rattle.pim_form.proofs.Words.{AreCanonical, written_message, star_fits, too_big}
use Rattle.pim_form.proofs.Lists.{all_append, all_front, all_behind}
use Rattle.pim_form.proofs.Normal.{groups_some}
use Rattle.pim_form.proofs.SomePacking.{Alone, some_packing, packing_alone}
use Rattle.pim_form.proofs.Units.{IsSome}

-- ---- the stars that fit

module _ (family : AddressFamily) (budget : ℕ) (least : 70 ≤ budget) where
  source_alone : (group source : List ℕ) → Alone family budget (source_unit group source)
  unfolding run_entries groups_behind
  source_alone group source =
      and_from (nat_le (run_size family (source_unit group source ∷ [])) budget) (nat_le (run_groups (source_unit group source ∷ [])) most_groups)
      (le-leb (run_size family (source_unit group source ∷ [])) budget (within family))
      (le-leb (run_groups (source_unit group source ∷ [])) most_groups (omega arith))
    where
      within : (of : AddressFamily) → run_size of (source_unit group source ∷ []) ≤ budget
      within Ipv4 = omega (arith, least)
      within Ipv6 = omega (arith, least)

  sources_alone : (group : List ℕ) (sources : List (List ℕ)) → AllByRecursion (Alone family budget) (map (source_unit group) sources)
  sources_alone group [] = tt
  sources_alone group (source ∷ sources) = (source_alone group source, sources_alone group sources)

  group_alone : (group : List ℕ) (star : Option (List (List ℕ))) (sources : List (List ℕ)) → star_fits family budget group star ≡ true
      → AllByRecursion (Alone family budget) (star_units group star ++ map (source_unit group) sources)
  group_alone group None sources fit = sources_alone group sources
  group_alone group (Some exceptions) sources fit = (fit, sources_alone group sources)

  star_first : (group : List ℕ) (star : Option (List (List ℕ))) (units : List WantUnit) → AllByRecursion (Alone family budget) (star_units group star ++ units)
      → star_fits family budget group star ≡ true
  star_first group None units all = refl
  star_first group (Some exceptions) units all = all.0

  form_alone : (form : List GroupForm) → too_big family budget form ≡ None → AllByRecursion (Alone family budget) (units_of form)
  form_alone [] none = tt
  form_alone (this ∷ form) none =
      elim (star_fits family budget this.group this.star) as
      (λ b. star_fits family budget this.group this.star ≡ b → (cond b (too_big family budget form) (Some this.group)) ≡ None → AllByRecursion (Alone family budget) (group_units this ++ units_of form)) [
        | true ↦ λ fit none'.
            all_append (Alone family budget) (group_units this) (units_of form) (group_alone this.group this.star this.sources fit) (form_alone form none')
        | false ↦ λ full none'. absurd cc
      ] refl none

  none_too_big : (form : List GroupForm) → AllByRecursion (Alone family budget) (units_of form) → too_big family budget form ≡ None
  none_too_big [] all = refl
  none_too_big (this ∷ form) all =
      let fit = star_first this.group this.star (map (source_unit this.group) this.sources) (all_front (Alone family budget) (group_units this) (units_of form) all) in
      ap (λ b. cond b (too_big family budget form) (Some this.group)) fit ∙ none_too_big form (all_behind (Alone family budget) (group_units this) (units_of form) all)

-- ---- lists in two parts

-- one list, cut at two places: what the longer first part has behind the shorter one
record Longer {A : Type 0} (long short before behind : List A) : Type 0 where
  middle : List A
  first : long ≡ short ++ middle
  second : before ≡ middle ++ behind

two_cuts : {A : Type 0} (xs ys s t : List A) → xs ++ ys ≡ s ++ t → Longer s xs ys t ⊎ Longer xs s t ys
two_cuts [] ys s t h = inl (record { middle = s; first = refl; second = h })
two_cuts (x ∷ xs) ys [] t h = inr (record { middle = x ∷ xs; first = refl; second = sym h })
two_cuts (x ∷ xs) ys (z ∷ s) t h =
    let head : x ≡ z = cc in
    let tail : xs ++ ys ≡ s ++ t = cc in
    elim (two_cuts xs ys s t tail) [
      | inl c ↦ inl (record { middle = c.middle; first = λ i. sym head i ∷ c.first i; second = c.second })
      | inr c ↦ inr (record { middle = c.middle; first = λ i. head i ∷ c.first i; second = c.second })
    ]

-- the sources of two lists of units
record SourcesCut (group : List ℕ) (run left : List WantUnit) : Type 0 where
  front : List (List ℕ)
  behind : List (List ℕ)
  is_run : map (source_unit group) front ≡ run
  is_left : map (source_unit group) behind ≡ left

sources_in_two : (group : List ℕ) (sources : List (List ℕ)) (run left : List WantUnit) → map (source_unit group) sources ≡ run ++ left → SourcesCut group run left
sources_in_two group sources [] left h = record { front = []; behind = sources; is_run = refl; is_left = h }
sources_in_two group [] (u ∷ run) left h = absurd cc
sources_in_two group (s ∷ sources) (u ∷ run) left h =
    let head : source_unit group s ≡ u = cc in
    let tail : map (source_unit group) sources ≡ run ++ left = cc in
    let c = sources_in_two group sources run left tail in
    record { front = s ∷ c.front; behind = c.behind; is_run = λ i. head i ∷ c.is_run i; is_left = c.is_left }

-- ---- the units of a form, cut at one place

abbrev Below : List ℕ → List GroupForm → Type 0
Below group form = AllByRecursion (λ above. slice_cmp nat_cmp group above ≡ Less) (groups_of form)

-- a part of a form, ascending and without empty groups, whose units are these
record IsPartOf (form : List GroupForm) (units : List WantUnit) (part : List GroupForm) : Type 0 where
  is : units_of part ≡ units
  ascending : AreAscending (groups_of part)
  some : AllByRecursion IsSome part
  above : (group : List ℕ) → Below group form → Below group part

record FormCut (form : List GroupForm) (run left : List WantUnit) : Type 0 where
  part : List GroupForm
  others : List GroupForm
  is_part : IsPartOf form run part
  are_others : IsPartOf form left others

-- a group whose units are these, with the sources of a group
group_with : List ℕ → Option (List (List ℕ)) → List (List ℕ) → GroupForm
group_with group star sources = record { group = group; star = star; sources = sources }

sources_some : (group : List ℕ) (sources : List (List ℕ)) (u : WantUnit) (units : List WantUnit) → map (source_unit group) sources ≡ u ∷ units → is_empty None sources ≡ false
sources_some group [] u units h = absurd cc
sources_some group (s ∷ sources) u units h = refl

module _ (this : GroupForm) (form : List GroupForm) (up : AreAscending (groups_of (this ∷ form))) (some : AllByRecursion IsSome (this ∷ form)) where
  no_part : IsPartOf (this ∷ form) [] []
  unfolding IsStrictlySortedBy
  no_part = record { is = refl; ascending = tt; some = tt; above = λ group below. tt }

  whole_form : (units : List WantUnit) → group_units this ++ units_of form ≡ units → IsPartOf (this ∷ form) units (this ∷ form)
  whole_form units is = record { is = is; ascending = up; some = some; above = λ group below. below }

  -- a group of the same address with the units of a part of it, alone or before the others
  alone_part : (star : Option (List (List ℕ))) (sources : List (List ℕ)) (units : List WantUnit) → star_units this.group star ++ map (source_unit this.group) sources ≡ units
      → is_empty star sources ≡ false → IsPartOf (this ∷ form) units (group_with this.group star sources ∷ [])
  unfolding IsStrictlySortedBy group_with
  alone_part star sources units is has = record {
    is = append_none (star_units this.group star ++ map (source_unit this.group) sources) ∙ is;
    ascending = (tt, tt);
    some = (has, tt);
    above = λ group below. (below.0, tt);
  }
    where
      append_none : (xs : List WantUnit) → xs ++ [] ≡ xs
      append_none [] = refl
      append_none (x ∷ xs) = ap (λ (ys : List WantUnit). x ∷ ys) (append_none xs)

  other_part : (sources : List (List ℕ)) (units : List WantUnit) → map (source_unit this.group) sources ≡ units
      → is_empty None sources ≡ false → IsPartOf (this ∷ form) (units ++ units_of form) (group_with this.group None sources ∷ form)
  unfolding IsStrictlySortedBy group_with
  other_part sources units is has = record {
    is = ap (λ (these : List WantUnit). these ++ units_of form) is;
    ascending = up;
    some = (has, some.1);
    above = λ group below. below;
  }

  behind_part : (units : List WantUnit) → units_of form ≡ units → IsPartOf (this ∷ form) units form
  unfolding IsStrictlySortedBy
  behind_part units is = record { is = is; ascending = up.1; some = some.1; above = λ group below. below.1 }

  -- a group cut in two
  group_in_two : (star : Option (List (List ℕ))) (u v : WantUnit) (run mid : List WantUnit) → star_units this.group star ++ map (source_unit this.group) this.sources ≡ (u ∷ run) ++ v ∷ mid
      → FormCut (this ∷ form) (u ∷ run) ((v ∷ mid) ++ units_of form)
  group_in_two None u v run mid h =
      let c = sources_in_two this.group this.sources (u ∷ run) (v ∷ mid) h in
      record {
        part = group_with this.group None c.front ∷ [];
        others = group_with this.group None c.behind ∷ form;
        is_part = alone_part None c.front (u ∷ run) c.is_run (sources_some this.group c.front u run c.is_run);
        are_others = other_part c.behind (v ∷ mid) c.is_left (sources_some this.group c.behind v mid c.is_left);
      }
  group_in_two (Some exceptions) u v run mid h =
      let head : star_unit this.group exceptions ≡ u = cc in
      let tail : map (source_unit this.group) this.sources ≡ run ++ v ∷ mid = cc in
      let c = sources_in_two this.group this.sources run (v ∷ mid) tail in
      record {
        part = group_with this.group (Some exceptions) c.front ∷ [];
        others = group_with this.group None c.behind ∷ form;
        is_part = alone_part (Some exceptions) c.front (u ∷ run) (λ i. head i ∷ c.is_run i) refl;
        are_others = other_part c.behind (v ∷ mid) c.is_left (sources_some this.group c.behind v mid c.is_left);
      }

  -- the cut lies within the first group
  within_group : (run mid left : List WantUnit) → group_units this ≡ run ++ mid → left ≡ mid ++ units_of form → FormCut (this ∷ form) run left
  within_group [] mid left h l = record {
    part = [];
    others = this ∷ form;
    is_part = no_part;
    are_others = whole_form left (ap (λ (these : List WantUnit). these ++ units_of form) h ∙ sym l);
  }
  within_group (u ∷ run) [] left h l = record {
    part = group_with this.group this.star this.sources ∷ [];
    others = form;
    is_part = alone_part this.star this.sources (u ∷ run) (h ∙ none_behind (u ∷ run)) some.0;
    are_others = behind_part left (sym l);
  }
    where
      none_behind : (xs : List WantUnit) → xs ++ [] ≡ xs
      none_behind [] = refl
      none_behind (x ∷ xs) = ap (λ (ys : List WantUnit). x ∷ ys) (none_behind xs)
  within_group (u ∷ run) (v ∷ mid) left h l =
      subst (FormCut (this ∷ form) (u ∷ run)) (sym l) (group_in_two this.star u v run mid h)

  -- the cut lies behind the first group
  behind_group : (run mid left : List WantUnit) → run ≡ group_units this ++ mid → FormCut form mid left → FormCut (this ∷ form) run left
  unfolding IsStrictlySortedBy
  behind_group run mid left h c = record {
    part = this ∷ c.part;
    others = c.others;
    is_part = record {
      is = ap (λ (these : List WantUnit). group_units this ++ these) c.is_part.is ∙ sym h;
      ascending = (c.is_part.above this.group up.0, c.is_part.ascending);
      some = (some.0, c.is_part.some);
      above = λ group below. (below.0, c.is_part.above group below.1);
    };
    are_others = record {
      is = c.are_others.is;
      ascending = c.are_others.ascending;
      some = c.are_others.some;
      above = λ group below. c.are_others.above group below.1;
    };
  }

form_in_two : (form : List GroupForm) (run left : List WantUnit) → AreAscending (groups_of form) → AllByRecursion IsSome form → units_of form ≡ run ++ left → FormCut form run left
unfolding IsStrictlySortedBy
form_in_two [] [] [] up some h =
    let none : IsPartOf [] [] [] = record { is = refl; ascending = tt; some = tt; above = λ group below. tt } in
    record { part = []; others = []; is_part = none; are_others = none }
form_in_two [] [] (u ∷ left) up some h = absurd cc
form_in_two [] (u ∷ run) left up some h = absurd cc
form_in_two (this ∷ form) run left up some h =
    elim (two_cuts (group_units this) (units_of form) run left h) [
      | inl c ↦ behind_group this form up some run c.middle left c.first (form_in_two form c.middle left up.1 some.1 c.second)
      | inr c ↦ within_group this form up some run c.middle left c.first c.second
    ]

-- ---- messages

module _ (family : AddressFamily) (writing : Writing) (rps : List ℕ → Option (List ℕ)) (seal : SomeMessageIsSealed) where
  some_told : (runs : List (List WantUnit)) (form : List GroupForm) → AreAscending (groups_of form) → AllByRecursion IsSome form → units_of form ≡ joined runs
      → (messages : List (List ℕ)) × CarryRuns family writing rps runs messages
  some_told [] form up some is = ([], tt)
  some_told (run ∷ runs) form up some is =
      let cut = form_in_two form run (joined runs) up some is in
      let message = seal family writing.own (all_routers family) JoinPrune (canonical family (written_message writing rps cut.part)) in
      let others = some_told runs cut.others cut.are_others.ascending cut.are_others.some cut.are_others.is in (
        message.0 ∷ others.0,
        (
          record { part = cut.part; units = cut.is_part.is; ascending = cut.is_part.ascending; some = cut.is_part.some; sealed = message.1 },
          others.1,
        ),
      )

  some_messages : (form : List GroupForm) → IsWriting family writing → IsNormal family form → too_big family writing.budget form ≡ None
      → (messages : List (List ℕ)) × AreCanonical family writing rps form messages
  some_messages form is normal none =
      let packing = some_packing family writing.budget (units_of form) (form_alone family writing.budget is.least form none) in
      let reported = some_told packing.0 form normal.ascending (groups_some family form normal.groups) (sym packing.1.whole) in
      (reported.0, record { runs = packing.0; packing = packing.1; reported = reported.1 })

  told_fit : (form : List GroupForm) → IsWriting family writing → (messages : List (List ℕ)) × AreCanonical family writing rps form messages
      → too_big family writing.budget form ≡ None
  told_fit form is (messages, reported) =
      none_too_big family writing.budget is.least form (packing_alone family writing.budget (units_of form) (reported.runs, reported.packing))

  pub messages_unless_too_big : (form : List GroupForm) → IsWriting family writing → IsNormal family form
      → ((messages : List (List ℕ)) × AreCanonical family writing rps form messages) ↔ (too_big family writing.budget form ≡ None)
  messages_unless_too_big form is normal = (told_fit form is, some_messages form is normal)
