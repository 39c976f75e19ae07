-- What a refusal to make messages reports.
use Rattle.std.specs.Prelude.{Result, Ok, Err, Option, Some, None}
use Rattle.pim_form.specs.declared.fault.FormFault.{FormFault}
use Rattle.pim_form.specs.declared.fault.FormFault.TheVariants.{TooBig, Memory, Tables}

-- The group that a refusal reports as too big, or `None`.
abbrev pub group_too_big : {T F A N : Type 0} → Result T (FormFault F A N) → Option A
group_too_big (Ok messages) = None
group_too_big (Err (TooBig group)) = Some group
group_too_big (Err Memory) = None
group_too_big (Err Tables) = None
