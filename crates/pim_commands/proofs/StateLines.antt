-- The lines of what is wanted are those of the demand.
use Rattle.std.proofs.Common.{◌≡◌, ◌∙◌, ℕ, Bool, List, [], ◌∷◌, ◌++◌, Option, None, Some, map, refl, sym, ap}
use Rattle.std.specs.List.{flat_map}
use Rattle.std.proofs.lemmas.Grind.{flat_map-append}
use Rattle.pim_addr.specs.declared.family.AddressFamily.{AddressFamily}
use Rattle.pim_addr.specs.Routes.{RouteTable}
use Rattle.pim_form.specs.NormalForm.{GroupForm}
use Rattle.pim_report.specs.DemandText.{star_via, exception_line, want_line, star_text, source_line, group_text, demand_text}
use Rattle.pim_down.specs.declared.machines.key.What.TheVariants.{Star}
use Rattle.pim_events.specs.declared.event.WantedWhat.TheVariants as wanted
use Rattle.pim_trace.specs.StateEvents.{wanted_of, star_entries, source_entry, group_entries, demand_entries}
use Rattle.pim_commands.specs.Laws.{lines_of}

module _ (family : AddressFamily) (shows_via : Bool) (routes : RouteTable) where
  exceptions_same : (group : List ℕ) (via : Option (List ℕ)) (sources : List (List ℕ))
      → flat_map (exception_line family shows_via group via) sources ≡ lines_of family shows_via (map (λ source. wanted_of group via (wanted.Except source)) sources)
  exceptions_same group via [] = refl
  exceptions_same group via (source ∷ sources) = ap (λ l. exception_line family shows_via group via source ++ l) (exceptions_same group via sources)

  sources_same : (group : List ℕ) (sources : List (List ℕ))
      → flat_map (source_line family shows_via routes group) sources ≡ lines_of family shows_via (map (source_entry family routes group) sources)
  sources_same group [] = refl
  sources_same group (source ∷ sources) = ap (λ l. source_line family shows_via routes group source ++ l) (sources_same group sources)

  star_same : (group : List ℕ) (star : Option (List (List ℕ)))
      → star_text family shows_via routes group star ≡ lines_of family shows_via (star_entries family routes group star)
  star_same group None = refl
  star_same group (Some exceptions) =
      ap (λ l. want_line family shows_via group Star (star_via family routes group) ++ l) (exceptions_same group (star_via family routes group) exceptions)

  group_same : (form : GroupForm) → group_text family shows_via routes form ≡ lines_of family shows_via (group_entries family routes form)
  group_same form =
      ap (λ l. l ++ flat_map (source_line family shows_via routes form.group) form.sources) (star_same form.group form.star)
      ∙ ap (λ l. lines_of family shows_via (star_entries family routes form.group form.star) ++ l) (sources_same form.group form.sources)
      ∙ lines_both (star_entries family routes form.group form.star) (map (source_entry family routes form.group) form.sources)
    where
      lines_both : (xs ys : List _) → lines_of family shows_via xs ++ lines_of family shows_via ys ≡ lines_of family shows_via (xs ++ ys)
      lines_both xs ys = sym (flat_map-append _ xs ys)

  pub lines_same : (form : List GroupForm) → lines_of family shows_via (demand_entries family routes form) ≡ demand_text family shows_via routes form
  lines_same [] = refl
  lines_same (first ∷ form) =
      flat_map-append _ (group_entries family routes first) (demand_entries family routes form)
      ∙ ap (λ l. lines_of family shows_via (group_entries family routes first) ++ l) (lines_same form)
      ∙ ap (λ l. l ++ demand_text family shows_via routes form) (sym (group_same first))
