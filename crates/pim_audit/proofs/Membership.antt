-- The entries of a change are those that are due, by the demands of its two forms.
use Rattle.pim_audit.proofs.Words.{◌≡◌, ◌∙◌, ℕ, Bool, true, false, cond, ◌&&◌, ◌||◌, not, List, [], ◌∷◌, ◌++◌, Option, None}
use Rattle.pim_audit.proofs.Words.{Some, refl, sym, ap, ap₂, subst, AllByRecursion, flat_map, list_any, is_some, is_eq}
use Rattle.pim_audit.proofs.Words.{nat_cmp, Less, IsStrictlySortedBy, false≢true, AddressFamily, Event, source_of, entry_rank}
use Rattle.pim_audit.proofs.Words.{same_entry, due_entries, EntriesAscend}
use Rattle.pim_audit.proofs.ChangeOrder.{all_by, due_up, group_entries, flat_twice}
use Rattle.pim_audit.proofs.SameEntry.{all_if_listed, equal_rank, one_list, same_parts}
use Rattle.pim_audit.proofs.DueParts.{excepts, group_due, group_dues}
use Rattle.pim_audit.proofs.ValidDues.{IsOf, dues_are_entries, group_in_valid, part_at, part_of_group}
use Rattle.std.proofs.lemmas.List.Folds.{list_any-append}
use Rattle.std.specs.Cmp.Lexicographic.{slice_cmp, same_text, texts_ties}
use Rattle.pim_addr.specs.Address.{IsGroupAddress, IsSourceAddress}
use Rattle.pim_down.specs.declared.machines.key.What.{What}
use Rattle.pim_down.specs.declared.machines.key.What.TheVariants.{Star, Source, Rpt}
use Rattle.pim_down.specs.Sound.{HasSource}
use Rattle.pim_form.specs.declared.tree.Tree.{Tree}
use Rattle.pim_form.specs.declared.tree.Tree.TheVariants as tree
use Rattle.pim_form.specs.NormalForm.{GroupForm, AreAscending, IsFormOf, same_address, is_listed}
use Rattle.pim_form.specs.NormalForm.{groups_of, group_wants, form_wants}
use Rattle.pim_form.specs.NormalForm as form
use Rattle.pim_form.specs.Settled.{unwanted, group_in}
use Rattle.pim_form.specs.Laws.{SomeSourceIsOutside}
use Rattle.pim_change.specs.Change.{change, change_at, group_change, in_order}
use Rattle.pim_change.specs.Laws.{AddressesAreInOrder}
use Rattle.pim_audit.specs.Dues.{Side, is_excepted, due_of, is_due, is_one, change_of, exception_change}
use Rattle.pim_audit.specs.Sides.{IsSide, IsEntry}

-- ---- an entry is listed in the part of its own group

none_of_another : (this : Event) (group : List ℕ) (entries : List Event) → same_address this.group group ≡ false
    → AllByRecursion (λ (e : Event). e.group ≡ group) entries → list_any (same_entry this) entries ≡ false
none_of_another this group [] apart all = refl
none_of_another this group (e ∷ entries) apart all =
    ap₂ ◌||◌
    (same_parts this e
    ∙ ap (λ t. (t && equal_rank this (entry_rank e)) && same_address (source_of this.what) (source_of e.what))
    (ap (λ g. same_address this.group g) all.0 ∙ apart))
    (none_of_another this group entries apart all.1)

module _ (E : List ℕ → List Event) (all : (group : List ℕ) → AllByRecursion (λ (e : Event). e.group ≡ group) (E group)) where
  own_part : (this : Event) (groups : List (List ℕ))
      → list_any (same_entry this) (flat_map E groups)
      ≡ (is_listed this.group groups && list_any (same_entry this) (E this.group))
  own_part this [] = refl
  own_part this (group ∷ groups) =
      list_any-append (same_entry this) (E group) (flat_map E groups)
      ∙ ap (λ b. list_any (same_entry this) (E group) || b) (own_part this groups)
      ∙ elim (same_address this.group group) as (λ t. same_address this.group group ≡ t
      → (list_any (same_entry this) (E group) || (is_listed this.group groups && list_any (same_entry this) (E this.group)))
      ≡ ((t || is_listed this.group groups) && list_any (same_entry this) (E this.group))) [
        | true ↦ λ same.
            ap (λ g. list_any (same_entry this) (E g)
            || (is_listed this.group groups && list_any (same_entry this) (E this.group)))
            (sym (same_text this.group group (sym same)))
            ∙ once (is_listed this.group groups) (list_any (same_entry this) (E this.group))
        | false ↦ λ apart.
            ap (λ b. b || (is_listed this.group groups && list_any (same_entry this) (E this.group)))
            (none_of_another this group (E group) apart (all group))
      ] refl
    where
      once : (b x : Bool) → (x || (b && x)) ≡ x
      once true true = refl
      once true false = refl
      once false true = refl
      once false false = refl

-- ---- a group of neither form has no entries

absent : (group : List ℕ) (these : List GroupForm) → is_listed group (groups_of these) ≡ false
    → group_in group these ≡ unwanted group
unfolding group_in
absent group [] unlisted = refl
absent group (this ∷ these) unlisted =
    elim (same_address group this.group) as (λ t. (t || is_listed group (groups_of these)) ≡ false
    → cond t this (group_in group these) ≡ unwanted group) [
      | true ↦ λ h. absurd (false≢true (sym h))
      | false ↦ λ h. absent group these h
    ] unlisted

module _ (in_orders : AddressesAreInOrder) (old new : List GroupForm) where
  nothing_absent : (this : Event) → is_listed this.group (in_order (groups_of old ++ groups_of new)) ≡ false
      → list_any (same_entry this) (part_at old new this.group) ≡ false
  nothing_absent this unlisted =
      let neither : (is_listed this.group (groups_of old) || is_listed this.group (groups_of new)) ≡ false =
      sym (list_any-append (same_address this.group) (groups_of old) (groups_of new))
      ∙ sym ((in_orders (groups_of old ++ groups_of new)).1 this.group) ∙ unlisted in
      let parts = or_parts (is_listed this.group (groups_of old)) (is_listed this.group (groups_of new)) neither in
      ap₂ (λ (a b : GroupForm). list_any (same_entry this) (group_entries this.group (group_change a b)))
      (absent this.group old parts.0) (absent this.group new parts.1)
    where
      or_parts : (a b : Bool) → (a || b) ≡ false → (a ≡ false) × (b ≡ false)
      or_parts true b h = absurd (false≢true (sym h))
      or_parts false b h = (refl, h)

  -- an entry is listed if the part of its group lists it
  listed_in_part : ((group : List ℕ) → AllByRecursion (λ (e : Event). e.group ≡ group) (part_at old new group)) → (this : Event)
      → list_any (same_entry this) (due_entries old new) ≡ list_any (same_entry this) (part_at old new this.group)
  unfolding change
  listed_in_part all this =
      ap (list_any (same_entry this)) (flat_twice (change_at old new) (in_order (groups_of old ++ groups_of new)))
      ∙ own_part (part_at old new) all this (in_order (groups_of old ++ groups_of new))
      ∙ elim (is_listed this.group (in_order (groups_of old ++ groups_of new)))
      as (λ t. is_listed this.group (in_order (groups_of old ++ groups_of new)) ≡ t
      → (t && list_any (same_entry this) (part_at old new this.group))
      ≡ list_any (same_entry this) (part_at old new this.group)) [
        | true ↦ λ listed. refl
        | false ↦ λ unlisted. sym (nothing_absent this unlisted)
      ] refl

-- ---- a form wants of a group what its entry for the group wants

none_later : (group : List ℕ) (test : GroupForm → Bool) (these : List GroupForm)
    → AllByRecursion (λ g. slice_cmp nat_cmp group g ≡ Less) (groups_of these)
    → list_any (λ this. same_address group this.group && test this) these ≡ false
none_later group test [] after = refl
none_later group test (this ∷ these) after =
    ap (λ b. (b && test this) || list_any (λ other. same_address group other.group && test other) these)
    (texts_ties group this.group ∙ ap is_eq after.0)
    ∙ none_later group test these after.1

nothing_wanted : (group source : List ℕ) (of : Tree) → false ≡ group_wants (group_in group []) source of
unfolding group_in
nothing_wanted group source tree.Shared = refl
nothing_wanted group source tree.Source = refl

wants_its_group : (these : List GroupForm) (source group : List ℕ) (of : Tree) → AreAscending (groups_of these)
    → form_wants these source group of ≡ group_wants (group_in group these) source of
unfolding group_in IsStrictlySortedBy
wants_its_group [] source group of up = nothing_wanted group source of
wants_its_group (this ∷ these) source group of up =
    elim (same_address group this.group) as (λ t. same_address group this.group ≡ t
    → ((t && group_wants this source of) || form_wants these source group of)
    ≡ group_wants (cond t this (group_in group these)) source of) [
      | true ↦ λ same.
          or_none (group_wants this source of) (form_wants these source group of)
          (none_later group (λ other. group_wants other source of) these
          (subst (λ (g : List ℕ). AllByRecursion (λ h. slice_cmp nat_cmp g h ≡ Less) (groups_of these))
          (sym (same_text group this.group (sym same))) up.0))
      | false ↦ λ apart. wants_its_group these source group of up.1
    ] refl
  where
    or_none : (a b : Bool) → b ≡ false → (a || b) ≡ a
    or_none true b is = refl
    or_none false b is = is

-- ---- a demand and its form

module _ (outside : SomeSourceIsOutside) (family : AddressFamily) (side : Side) (these : List GroupForm) (is : IsSide family side)
    (of : IsFormOf family side.demand these) (group : List ℕ) (valid : IsGroupAddress family group) where
  demanded : (source : List ℕ) (on : Tree) → IsSourceAddress family source
      → side.demand source group on ≡ group_wants (group_in group these) source on
  demanded source on good = of.wants source group on good valid ∙ wants_its_group these source group on of.normal.ascending

  star_by : (star : Option (List (List ℕ))) → (group_in group these).star ≡ star → form.AreExceptions family star
      → side.star group ≡ is_some star
  star_by None here are =
      elim (side.star group) as (λ t. side.star group ≡ t → t ≡ false) [
        | true ↦ λ has.
            let shared = is.some group valid has in
            absurd (false≢true (ap (λ s. not (form.is_excepted shared.source s)) (sym here)
            ∙ sym (demanded shared.source tree.Shared shared.valid) ∙ shared.wanted))
        | false ↦ λ none. refl
      ] refl
  star_by (Some exceptions) here are =
      let other = outside family exceptions are.2 in
      is.only other.source group other.valid valid
      (demanded other.source tree.Shared other.valid
      ∙ ap (λ s. not (form.is_excepted other.source s)) here ∙ ap not other.apart)

  star_is : side.star group ≡ is_some (group_in group these).star
  star_is = star_by (group_in group these).star refl (group_in_valid family group these of.normal.groups).exceptions

  excepted_is : (source : List ℕ) → IsSourceAddress family source
      → is_excepted side source group ≡ excepts (group_in group these).star source
  excepted_is source good =
      ap₂ (λ s t. s && not t) star_is (demanded source tree.Shared good) ∙ twice (group_in group these).star
    where
      twice_not : (b : Bool) → not (not b) ≡ b
      twice_not true = refl
      twice_not false = refl

      twice : (star : Option (List (List ℕ))) → (is_some star && not (not (form.is_excepted source star))) ≡ excepts star source
      twice None = refl
      twice (Some exceptions) = twice_not (is_listed source exceptions)

-- ---- what is due

module _ (outside : SomeSourceIsOutside) (family : AddressFamily) (asked wanted : Side) (old new : List GroupForm)
    (is_asked : IsSide family asked) (is_wanted : IsSide family wanted) (of_asked : IsFormOf family asked.demand old)
    (of_wanted : IsFormOf family wanted.demand new) (group : List ℕ) (valid : IsGroupAddress family group) where
  due_is : (what : What (List ℕ)) → HasSource family what
      → group_due (group_in group old) (group_in group new) what ≡ due_of asked wanted group what
  due_is Star good = ap₂ change_of (sym (star_is outside family asked old is_asked of_asked group valid))
      (sym (star_is outside family wanted new is_wanted of_wanted group valid))
  due_is (Source source) good = ap₂ change_of
      (sym (demanded outside family asked old is_asked of_asked group valid source tree.Source good))
      (sym (demanded outside family wanted new is_wanted of_wanted group valid source tree.Source good))
  due_is (Rpt source) good =
      ap (λ t. exception_change t (excepts (group_in group old).star source) (excepts (group_in group new).star source))
      (sym (star_is outside family wanted new is_wanted of_wanted group valid))
      ∙ ap₂ (exception_change (wanted.star group))
      (sym (excepted_is outside family asked old is_asked of_asked group valid source good))
      (sym (excepted_is outside family wanted new is_wanted of_wanted group valid source good))

-- the entries of a change are those that are due
pub dues_are_due : SomeSourceIsOutside → AddressesAreInOrder
    → (family : AddressFamily) (asked wanted : Side) (old new : List GroupForm) → IsSide family asked → IsSide family wanted
    → IsFormOf family asked.demand old → IsFormOf family wanted.demand new
    → (this : Event) → IsEntry family this → list_any (same_entry this) (due_entries old new) ≡ is_due asked wanted this
dues_are_due outside in_orders family asked wanted old new is_asked is_wanted of_asked of_wanted this is =
    listed_in_part in_orders old new
    (λ group. all_by (IsOf family group) (λ (e : Event). e.group ≡ group) (λ e of. of.same) (part_at old new group)
    (part_of_group family old new of_asked.normal of_wanted.normal group)) this
    ∙ group_dues this.joins this.group this.what (group_in this.group old) (group_in this.group new)
    ∙ ap (λ (due : Option Bool). is_one due this.joins)
    (due_is outside family asked wanted old new is_asked is_wanted of_asked of_wanted this.group is.group this.what is.source)

-- a list in order of exactly the entries that are due is the change's list of entries
pub due_list_is : SomeSourceIsOutside → AddressesAreInOrder
    → (family : AddressFamily) (asked wanted : Side) (old new : List GroupForm) → IsSide family asked → IsSide family wanted
    → IsFormOf family asked.demand old → IsFormOf family wanted.demand new
    → (entries : List Event) → EntriesAscend entries
    → ((this : Event) → is_due asked wanted this ≡ true → IsEntry family this)
    → ((this : Event) → list_any (same_entry this) entries ≡ is_due asked wanted this) → entries ≡ due_entries old new
due_list_is outside in_orders family asked wanted old new is_asked is_wanted of_asked of_wanted entries up valid exact =
    one_list family entries (due_entries old new) up
    (due_up family old new (λ addresses. (in_orders addresses).0) of_asked.normal of_wanted.normal)
    (all_if_listed (IsEntry family) entries (λ this listed. valid this (sym (exact this) ∙ listed)))
    (dues_are_entries family old new of_asked.normal of_wanted.normal)
    (λ this is. exact this
    ∙ sym (dues_are_due outside in_orders family asked wanted old new is_asked is_wanted of_asked of_wanted this is))
