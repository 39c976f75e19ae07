-- Which entries the change of one group has.
use Rattle.pim_audit.proofs.Words.{◌≡◌, ◌∙◌, ℕ, Bool, true, false, ◌&&◌, ◌||◌, not, List, [], ◌∷◌, ◌++◌, Option, None, Some}
use Rattle.pim_audit.proofs.Words.{map, refl, sym, ap, ap₂, list_any, is_some, append-nil, Event, JoinRpt, PruneRpt}
use Rattle.pim_audit.proofs.Words.{JoinSource, PruneSource, source_of, entry, source_entry, same_entry}
use Rattle.pim_audit.proofs.ChangeOrder.{rank_of, group_entries, entries_both, entries_of_sources}
use Rattle.pim_audit.proofs.SameEntry.{equal_rank, same_in_group}
use Rattle.std.proofs.lemmas.List.Folds.{list_any-append}
use Rattle.std.proofs.lemmas.Map.Views.{any-filter_same}
use Rattle.std.specs.Cmp.Lexicographic.{same_text}
use Rattle.pim_down.specs.declared.machines.key.What.{What}
use Rattle.pim_down.specs.declared.machines.key.What.TheVariants.{Star, Source, Rpt}
use Rattle.pim_form.specs.NormalForm.{GroupForm, same_address, is_listed}
use Rattle.pim_change.specs.declared.unit.ActionKind.{ActionKind}
use Rattle.pim_change.specs.Change.{Action, of_source, lacking, star_change, sources_change, group_change}
use Rattle.pim_audit.specs.Dues.{change_of, exception_change, is_one}

-- ---- sources

-- the entry is of this kind, and of a source that the first list has and the other list lacks
abbrev lacks : Event → ActionKind → List (List ℕ) → List (List ℕ) → Bool
lacks this kind sources other =
    equal_rank this (rank_of kind)
    && (not (is_listed (source_of this.what) other) && is_listed (source_of this.what) sources)

lacking_listed : (source : List ℕ) (one other : List (List ℕ))
    → is_listed source (lacking one other) ≡ (not (is_listed source other) && is_listed source one)
lacking_listed source one other =
    any-filter_same (same_address source) (λ address. not (is_listed address other)) (not (is_listed source other))
    (λ address same. ap (λ (a : List ℕ). not (is_listed a other)) (sym (same_text source address (sym same)))) one

module _ (this : Event) (group : List ℕ) (one : this.group ≡ group) where
  source_same : (kind : ActionKind) (source : List ℕ)
      → same_entry this (source_entry group kind source)
      ≡ (equal_rank this (rank_of kind) && same_address (source_of this.what) source)
  source_same JoinRpt source = same_in_group this (source_entry group JoinRpt source) one
  source_same PruneRpt source = same_in_group this (source_entry group PruneRpt source) one
  source_same JoinSource source = same_in_group this (source_entry group JoinSource source) one
  source_same PruneSource source = same_in_group this (source_entry group PruneSource source) one

  sources_listed : (kind : ActionKind) (sources : List (List ℕ))
      → list_any (same_entry this) (map (source_entry group kind) sources)
      ≡ (equal_rank this (rank_of kind) && is_listed (source_of this.what) sources)
  sources_listed kind [] = none (equal_rank this (rank_of kind))
    where
      none : (b : Bool) → false ≡ (b && false)
      none true = refl
      none false = refl
  sources_listed kind (source ∷ sources) =
      ap₂ ◌||◌ (source_same kind source) (sources_listed kind sources)
      ∙ both (equal_rank this (rank_of kind)) (same_address (source_of this.what) source)
      (is_listed (source_of this.what) sources)
    where
      both : (b x y : Bool) → ((b && x) || (b && y)) ≡ (b && (x || y))
      both true x y = refl
      both false x y = refl

  lacking_one : (kind : ActionKind) (sources other : List (List ℕ))
      → list_any (same_entry this) (group_entries group (map (of_source kind) (lacking sources other)))
      ≡ lacks this kind sources other
  lacking_one kind sources other =
      ap (list_any (same_entry this)) (entries_of_sources group kind (lacking sources other))
      ∙ sources_listed kind (lacking sources other)
      ∙ ap (λ b. equal_rank this (rank_of kind) && b) (lacking_listed (source_of this.what) sources other)

-- ---- the parts of a change

-- the entry is listed for the star, or for the sources
abbrev in_star : Event → Option (List (List ℕ)) → Option (List (List ℕ)) → Bool
in_star this None None = false
in_star this None (Some exceptions) = (equal_rank this 0 && same_address (source_of this.what) [])
    || (equal_rank this (rank_of PruneRpt) && is_listed (source_of this.what) exceptions)
in_star this (Some excepted) None = (equal_rank this 1 && same_address (source_of this.what) []) || false
in_star this (Some excepted) (Some exceptions) = lacks this JoinRpt excepted exceptions || lacks this PruneRpt exceptions excepted

abbrev in_sources : Event → List (List ℕ) → List (List ℕ) → Bool
in_sources this old new = lacks this JoinSource new old || lacks this PruneSource old new

either : (this : Event) (group : List ℕ) (xs ys : List Action) → list_any (same_entry this) (group_entries group (xs ++ ys))
    ≡ (list_any (same_entry this) (group_entries group xs) || list_any (same_entry this) (group_entries group ys))
either this group xs ys =
    ap (list_any (same_entry this)) (entries_both group xs ys)
    ∙ list_any-append (same_entry this) (group_entries group xs) (group_entries group ys)

module _ (this : Event) (group : List ℕ) (one : this.group ≡ group) where
  star_listed : (old new : Option (List (List ℕ)))
      → list_any (same_entry this) (group_entries group (star_change old new)) ≡ in_star this old new
  star_listed None None = refl
  star_listed None (Some exceptions) =
      ap₂ ◌||◌ (same_in_group this (entry true group Star) one)
      (ap (list_any (same_entry this)) (append-nil (map (source_entry group PruneRpt) exceptions))
      ∙ sources_listed this group one PruneRpt exceptions)
  star_listed (Some excepted) None = ap (λ b. b || false) (same_in_group this (entry false group Star) one)
  star_listed (Some excepted) (Some exceptions) =
      either this group (map (of_source JoinRpt) (lacking excepted exceptions))
      (map (of_source PruneRpt) (lacking exceptions excepted))
      ∙ ap₂ ◌||◌ (lacking_one this group one JoinRpt excepted exceptions)
      (lacking_one this group one PruneRpt exceptions excepted)

  sources_change_listed : (old new : List (List ℕ))
      → list_any (same_entry this) (group_entries group (sources_change old new)) ≡ in_sources this old new
  sources_change_listed old new =
      either this group (map (of_source JoinSource) (lacking new old)) (map (of_source PruneSource) (lacking old new))
      ∙ ap₂ ◌||◌ (lacking_one this group one JoinSource new old) (lacking_one this group one PruneSource old new)

  change_listed : (old new : GroupForm) → list_any (same_entry this) (group_entries group (group_change old new))
      ≡ (in_star this old.star new.star || in_sources this old.sources new.sources)
  change_listed old new =
      either this group (star_change old.star new.star) (sources_change old.sources new.sources)
      ∙ ap₂ ◌||◌ (star_listed old.star new.star) (sources_change_listed old.sources new.sources)

-- ---- what is due of a group

-- the source is an exception of the star
abbrev pub excepts : Option (List (List ℕ)) → List ℕ → Bool
excepts None source = false
excepts (Some exceptions) source = is_listed source exceptions

-- what is due of one machine, by what two forms have of its group
abbrev pub group_due : GroupForm → GroupForm → What (List ℕ) → Option Bool
group_due old new Star = change_of (is_some old.star) (is_some new.star)
group_due old new (Source source) = change_of (is_listed source old.sources) (is_listed source new.sources)
group_due old new (Rpt source) = exception_change (is_some new.star) (excepts old.star source) (excepts new.star source)

comes : (was is : Bool) → ((not was && is) || false) ≡ is_one (change_of was is) true
comes true true = refl
comes true false = refl
comes false true = refl
comes false false = refl

goes : (was is : Bool) → (not is && was) ≡ is_one (change_of was is) false
goes true true = refl
goes true false = refl
goes false true = refl
goes false false = refl

-- an exception is the lack of something
returns : (was is : Bool) → (((not is && was) || false) || false) ≡ is_one (change_of (not was) (not is)) true
returns true true = refl
returns true false = refl
returns false true = refl
returns false false = refl

leaves : (was is : Bool) → ((not was && is) || false) ≡ is_one (change_of (not was) (not is)) false
leaves true true = refl
leaves true false = refl
leaves false true = refl
leaves false false = refl

no_join : (is : Bool) → false ≡ is_one (change_of true (not is)) true
no_join true = refl
no_join false = refl

all_leave : (is : Bool) → (is || false) ≡ is_one (change_of true (not is)) false
all_leave true = refl
all_leave false = refl

module _ (group : List ℕ) (old new : List (List ℕ)) where
  star_due : (joins : Bool) (was is : Option (List (List ℕ)))
      → (in_star (entry joins group Star) was is || in_sources (entry joins group Star) old new)
      ≡ is_one (change_of (is_some was) (is_some is)) joins
  star_due true None None = refl
  star_due true None (Some exceptions) = refl
  star_due true (Some excepted) None = refl
  star_due true (Some excepted) (Some exceptions) = refl
  star_due false None None = refl
  star_due false None (Some exceptions) = refl
  star_due false (Some excepted) None = refl
  star_due false (Some excepted) (Some exceptions) = refl

  source_due : (joins : Bool) (source : List ℕ) (was is : Option (List (List ℕ)))
      → (in_star (entry joins group (Source source)) was is || in_sources (entry joins group (Source source)) old new)
      ≡ is_one (change_of (is_listed source old) (is_listed source new)) joins
  source_due true source None None = comes (is_listed source old) (is_listed source new)
  source_due true source None (Some exceptions) = comes (is_listed source old) (is_listed source new)
  source_due true source (Some excepted) None = comes (is_listed source old) (is_listed source new)
  source_due true source (Some excepted) (Some exceptions) = comes (is_listed source old) (is_listed source new)
  source_due false source None None = goes (is_listed source old) (is_listed source new)
  source_due false source None (Some exceptions) = goes (is_listed source old) (is_listed source new)
  source_due false source (Some excepted) None = goes (is_listed source old) (is_listed source new)
  source_due false source (Some excepted) (Some exceptions) = goes (is_listed source old) (is_listed source new)

  rpt_due : (joins : Bool) (source : List ℕ) (was is : Option (List (List ℕ)))
      → (in_star (entry joins group (Rpt source)) was is || in_sources (entry joins group (Rpt source)) old new)
      ≡ is_one (exception_change (is_some is) (excepts was source) (excepts is source)) joins
  rpt_due true source None None = refl
  rpt_due true source None (Some exceptions) = no_join (is_listed source exceptions)
  rpt_due true source (Some excepted) None = refl
  rpt_due true source (Some excepted) (Some exceptions) = returns (is_listed source excepted) (is_listed source exceptions)
  rpt_due false source None None = refl
  rpt_due false source None (Some exceptions) = all_leave (is_listed source exceptions)
  rpt_due false source (Some excepted) None = refl
  rpt_due false source (Some excepted) (Some exceptions) = leaves (is_listed source excepted) (is_listed source exceptions)

-- the change of a group has exactly what is due of its machines
pub group_dues : (joins : Bool) (group : List ℕ) (what : What (List ℕ)) (old new : GroupForm)
    → list_any (same_entry (entry joins group what)) (group_entries group (group_change old new))
    ≡ is_one (group_due old new what) joins
group_dues joins group Star old new =
    change_listed (entry joins group Star) group refl old new ∙ star_due group old.sources new.sources joins old.star new.star
group_dues joins group (Source source) old new =
    change_listed (entry joins group (Source source)) group refl old new
    ∙ source_due group old.sources new.sources joins source old.star new.star
group_dues joins group (Rpt source) old new =
    change_listed (entry joins group (Rpt source)) group refl old new
    ∙ rpt_due group old.sources new.sources joins source old.star new.star
