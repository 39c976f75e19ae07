-- If nothing is due between two normal forms, they want the same.
use Rattle.pim_audit_laws.proofs.Words.{◌≡◌, ◌∙◌, ℕ, Bool, true, false, cond, not, ◌||◌, List, [], ◌∷◌, ◌++◌, Option, None, Some}
use Rattle.pim_audit_laws.proofs.Words.{map, refl, sym, ap, flat_map, same_text, false≢true, list_any-append, Tree}
use Rattle.pim_audit_laws.proofs.Words.{AddressFamily, GroupForm, IsNormal, OneNormalForm, same_address, is_listed}
use Rattle.pim_audit_laws.proofs.Words.{groups_of, is_excepted, group_wants, WantTheSame, group_in, JoinRpt, PruneRpt}
use Rattle.pim_audit_laws.proofs.Words.{JoinSource, PruneSource, Action, star_joined, star_pruned, of_source, ChangeUnit}
use Rattle.pim_audit_laws.proofs.Words.{unit_of, lacking, star_change, sources_change, group_change, in_order, change_at, change}
use Rattle.pim_audit_laws.proofs.Words.{AddressesAreInOrder, EqualFormsChangeNothing, action_entries, announced_entries}
use Rattle.pim_audit_laws.proofs.Words.{due_entries, NothingDueIsOneForm}
use Rattle.pim_form.specs.declared.tree.Tree.TheVariants as tree
use Rattle.pim_audit_laws.proofs.Groups.{means_its_group, absent}

-- ---- empty lists

left_empty : {X : Type 0} (xs ys : List X) → xs ++ ys ≡ [] → xs ≡ []
left_empty [] ys e = refl
left_empty (x ∷ xs) ys e = absurd cc

right_empty : {X : Type 0} (xs ys : List X) → xs ++ ys ≡ [] → ys ≡ []
right_empty [] ys e = e
right_empty (x ∷ xs) ys e = absurd cc

map_empty : {X Y : Type 0} (f : X → Y) (xs : List X) → map f xs ≡ [] → xs ≡ []
map_empty f [] e = refl
map_empty f (x ∷ xs) e = absurd cc

-- ---- no entry, so no unit

says_some : {X : Type 0} (group : List ℕ) (action : Action) → action_entries group action ≡ [] → X
says_some group (star_joined exceptions) e = absurd cc
says_some group star_pruned e = absurd cc
says_some group (of_source kind source) e = absurd cc

no_units : (units : List ChangeUnit) → flat_map announced_entries units ≡ [] → units ≡ []
no_units [] e = refl
no_units (this ∷ units) e = says_some this.group this.action
    (left_empty (announced_entries this) (flat_map announced_entries units) e)

-- no unit of a group in order, so none of any group
none_at : (f : List ℕ → List ChangeUnit) (group : List ℕ) (groups : List (List ℕ)) → flat_map f groups ≡ []
    → is_listed group groups ≡ true → f group ≡ []
none_at f group [] e listed = absurd (false≢true listed)
none_at f group (g ∷ groups) e listed =
    elim (same_address group g) as (λ b. same_address group g ≡ b → (b || is_listed group groups) ≡ true → f group ≡ []) [
      | true ↦ λ s l. ap f (same_text group g (sym s)) ∙ left_empty (f g) (flat_map f groups) e
      | false ↦ λ s l. none_at f group groups (right_empty (f g) (flat_map f groups) e) l
    ] refl listed

-- ---- no change of a group, so both want the same of it

listed_then : (s x : List ℕ) (xs ys : List (List ℕ)) → (is_listed s xs ≡ true → is_listed s ys ≡ true)
    → is_listed x ys ≡ true → is_listed s (x ∷ xs) ≡ true → is_listed s ys ≡ true
listed_then s x xs ys behind here listed =
    elim (same_address s x) as (λ b. same_address s x ≡ b → (b || is_listed s xs) ≡ true → is_listed s ys ≡ true) [
      | true ↦ λ same l. ap (λ a. is_listed a ys) (same_text s x (sym same)) ∙ here
      | false ↦ λ same l. behind l
    ] refl listed

nothing_lacks : (s : List ℕ) (xs ys : List (List ℕ)) → lacking xs ys ≡ [] → is_listed s xs ≡ true
    → is_listed s ys ≡ true
nothing_lacks s [] ys e listed = absurd (false≢true listed)
nothing_lacks s (x ∷ xs) ys e listed =
    elim (is_listed x ys) as (λ b. is_listed x ys ≡ b → cond (not b) (x ∷ lacking xs ys) (lacking xs ys) ≡ []
    → is_listed s ys ≡ true) [
      | true ↦ λ h lacks. listed_then s x xs ys (nothing_lacks s xs ys lacks) h listed
      | false ↦ λ h lacks. absurd cc
    ] refl e

both_ways : (a b : Bool) → (a ≡ true → b ≡ true) → (b ≡ true → a ≡ true) → a ≡ b
both_ways true true to from = refl
both_ways true false to from = sym (to refl)
both_ways false true to from = from refl
both_ways false false to from = refl

listed_alike : (s : List ℕ) (xs ys : List (List ℕ)) → lacking xs ys ≡ [] → lacking ys xs ≡ []
    → is_listed s xs ≡ is_listed s ys
listed_alike s xs ys e e' =
    both_ways (is_listed s xs) (is_listed s ys) (nothing_lacks s xs ys e) (nothing_lacks s ys xs e')

excepted_alike : (s : List ℕ) (old new : Option (List (List ℕ))) → star_change old new ≡ []
    → is_excepted s old ≡ is_excepted s new
excepted_alike s None None e = refl
excepted_alike s None (Some exceptions) e = absurd cc
excepted_alike s (Some excepted) None e = absurd cc
excepted_alike s (Some excepted) (Some exceptions) e =
    let joins = map (of_source JoinRpt) (lacking excepted exceptions) in
    let prunes = map (of_source PruneRpt) (lacking exceptions excepted) in
    listed_alike s excepted exceptions
    (map_empty (of_source JoinRpt) (lacking excepted exceptions) (left_empty joins prunes e))
    (map_empty (of_source PruneRpt) (lacking exceptions excepted) (right_empty joins prunes e))

sources_alike : (s : List ℕ) (old new : List (List ℕ)) → sources_change old new ≡ []
    → is_listed s old ≡ is_listed s new
sources_alike s old new e =
    let joins = map (of_source JoinSource) (lacking new old) in
    let prunes = map (of_source PruneSource) (lacking old new) in
    listed_alike s old new
    (map_empty (of_source PruneSource) (lacking old new) (right_empty joins prunes e))
    (map_empty (of_source JoinSource) (lacking new old) (left_empty joins prunes e))

group_alike : (old new : GroupForm) (source : List ℕ) (of : Tree) → group_change old new ≡ []
    → group_wants old source of ≡ group_wants new source of
group_alike old new source tree.Shared e =
    ap not (excepted_alike source old.star new.star
    (left_empty (star_change old.star new.star) (sources_change old.sources new.sources) e))
group_alike old new source tree.Source e =
    sources_alike source old.sources new.sources
    (right_empty (star_change old.star new.star) (sources_change old.sources new.sources) e)

-- ---- all groups

or_left : (a b : Bool) → (a || b) ≡ false → a ≡ false
or_left true b e = e
or_left false b e = refl

or_right : (a b : Bool) → (a || b) ≡ false → b ≡ false
or_right true b e = absurd (false≢true (sym e))
or_right false b e = e

module _ (order : AddressesAreInOrder) (old new : List GroupForm) (none : due_entries old new ≡ []) where
  no_change_at : (group : List ℕ) → group_change (group_in group old) (group_in group new) ≡ []
  unfolding change
  no_change_at group =
      let groups : List (List ℕ) = groups_of old ++ groups_of new in
      let both = list_any-append (same_address group) (groups_of old) (groups_of new) in
      elim (is_listed group groups) as (λ b. is_listed group groups ≡ b
      → group_change (group_in group old) (group_in group new) ≡ []) [
        | true ↦ λ l. map_empty (unit_of group) (group_change (group_in group old) (group_in group new))
            (none_at (change_at old new) group (in_order groups) (no_units (change old new) none) ((order groups).1 group ∙ l))
        | false ↦ λ l.
            let neither = sym both ∙ l in
            let of_old = absent group old (or_left (is_listed group (groups_of old)) (is_listed group (groups_of new)) neither) in
            let of_new = absent group new (or_right (is_listed group (groups_of old)) (is_listed group (groups_of new)) neither) in
            λ i. group_change (of_old i) (of_new i)
      ] refl

  want_the_same : (family : AddressFamily) → IsNormal family old → IsNormal family new → WantTheSame family old new
  want_the_same family of_old of_new source group of valid is =
      means_its_group old source group of of_old.ascending
      ∙ group_alike (group_in group old) (group_in group new) source of (no_change_at group)
      ∙ sym (means_its_group new source group of of_new.ascending)

pub nothing_due_is_one_form : OneNormalForm → EqualFormsChangeNothing → AddressesAreInOrder → NothingDueIsOneForm
nothing_due_is_one_form sole equal order family asked wanted of_asked of_wanted = (
  λ none. sole family asked wanted of_asked of_wanted (want_the_same order asked wanted none family of_asked of_wanted),
  λ same. ap (λ (form : List GroupForm). due_entries asked form) (sym same) ∙ ap (flat_map announced_entries) (equal asked),
)
