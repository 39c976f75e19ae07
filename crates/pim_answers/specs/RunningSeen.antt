-- What contracts of private functions say of runs.
use Rattle.std.specs.Prelude.{ℕ, List, []}
use Rattle.pim_addr.specs.declared.family.AddressFamily.{AddressFamily}
use Rattle.pim_router.specs.declared.step.Step.{Step}
use Rattle.pim_router.specs.declared.step.Step.TheVariants.{Echo, Refresh, Reached}
use Rattle.pim_report.specs.EchoLine.{echo_line}
use Rattle.pim_report.specs.RefreshLine.{refresh_line}

-- The line of the end of a run at this moment; nothing where the moment is reached.
abbrev pub step_line : AddressFamily → ℕ → Step (List ℕ) → List ℕ
step_line family moment (Echo port group what) = echo_line family moment port group what
step_line family moment Refresh = refresh_line moment
step_line family moment Reached = []
