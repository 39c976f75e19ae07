-- The commands that report on the router and change nothing.
use Rattle.std.specs.Prelude.{◌≡◌, ◌⊎◌, ℕ, true, List, ◌++◌, Option, Some, codes}
use Rattle.std.specs.List.{flat_map}
use Rattle.pim_addr.specs.declared.family.AddressFamily.{AddressFamily}
use Rattle.pim_down.specs.Time.{IsNextDue}
use Rattle.pim_form.specs.NormalForm.{GroupForm, IsFormOf}
use Rattle.pim_form.specs.Wants.{wants}
use Rattle.pim_router.specs.State.{RouterState}
use Rattle.pim_report.specs.DemandText.{demand_text}
use Rattle.pim_lines.specs.Pieces.{line, number_or}
use Rattle.pim_report.specs.RecordLine.{record_line}
use Rattle.pim_answers.specs.Lines.{ok_line, memory_line}
use Rattle.pim_answers.specs.Neighbours.{neighbours_text}

-- The line of a moment in milliseconds, or `never`.
abbrev pub moment_line : Option ℕ → List ℕ
moment_line moment = line (number_or (codes "never") moment)

-- `now`: the present moment.
abbrev pub AnswersNow : RouterState → List ℕ → Type 0
AnswersNow router text = text ≡ moment_line (Some router.machines.moment) ++ ok_line

-- `next`: the first moment at which a timer of a record fires.
abbrev pub AnswersNext : RouterState → List ℕ → Type 0
AnswersNext router text = (due : Option ℕ) × IsNextDue router.machines due × (text ≡ moment_line due ++ ok_line)

-- `state`: the lines of the records.
abbrev pub AnswersState : AddressFamily → RouterState → List ℕ → Type 0
AnswersState family router text = text ≡ flat_map (record_line family) router.machines.records ++ ok_line

-- `wants`: the lines of the demand, each with its upstream neighbour. Or memory is refused.
abbrev pub AnswersWants : AddressFamily → RouterState → List ℕ → Type 0
AnswersWants family router text =
    ((form : List GroupForm) × IsFormOf family (wants router.machines) form
    × (text ≡ demand_text family true router.routes form ++ ok_line))
    ⊎ (text ≡ memory_line)

-- `neighbours`: the lines of the neighbours.
abbrev pub AnswersNeighbours : AddressFamily → RouterState → List ℕ → Type 0
AnswersNeighbours family router text = text ≡ neighbours_text family router ++ ok_line
