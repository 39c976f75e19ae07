-- The downstream machines that a form names (RFC 7761, 4.5), without regard to its messages.
use Rattle.std.specs.Prelude.{ℕ, Bool, ◌&&◌, List}
use Rattle.std.specs.Option.{is_some}
use Rattle.std.specs.List.{list_any}
use Rattle.pim_down.specs.declared.machines.key.What.{What}
use Rattle.pim_down.specs.declared.machines.key.What.TheVariants.{Star, Source, Rpt}
use Rattle.pim_form.specs.NormalForm.{GroupForm, same_address, is_listed}
use Rattle.pim_form.specs.Rows.{exceptions_of}

-- The machines that a group of a form names: (*,G) of its star, (S,G) of each source, (S,G,rpt) of
-- each exception.
abbrev pub group_names : GroupForm → What (List ℕ) → Bool
group_names this Star = is_some this.star
group_names this (Source source) = is_listed source this.sources
group_names this (Rpt source) = is_listed source (exceptions_of this.star)

-- The machines that a form names, by group and entry.
abbrev pub form_names : List GroupForm → List ℕ → What (List ℕ) → Bool
form_names form group what = list_any (λ this. same_address group this.group && group_names this what) form
