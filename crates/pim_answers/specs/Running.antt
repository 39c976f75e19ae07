-- The command `run`: time passes up to a moment.
use Rattle.std.specs.Prelude.{◌≡◌, ℕ, List, [], ◌∷◌, ◌++◌}
use Rattle.pim_addr.specs.declared.family.AddressFamily.{AddressFamily}
use Rattle.pim_router.specs.declared.step.Step.TheVariants.{Echo, Refresh, Reached}
use Rattle.pim_router.specs.Course.{RouterReport, echo, refresh, verdict}
use Rattle.pim_router.specs.State.{RouterState}
use Rattle.pim_router.specs.Time.{Runs}
use Rattle.pim_report.specs.EchoLine.{echo_line}
use Rattle.pim_report.specs.RefreshLine.{refresh_line}
use Rattle.pim_answers.specs.Lines.{ok_line}

-- The router runs to the moment, each run going on where the last one stopped, until nothing is
-- due. Each echo and each refresh is a line with the moment at which it falls.
unfoldable pub Passes : AddressFamily → ℕ → List RouterReport → List ℕ → RouterState → RouterState → Type 0
Passes family moment [] lines router after = Runs moment router Reached after × (lines ≡ [])
Passes family moment (echo port group what ∷ more) lines router after =
    (between : RouterState) × (others : List ℕ) × Runs moment router (Echo port group what) between
    × (lines ≡ echo_line family between.machines.moment port group what ++ others)
    × Passes family moment more others between after
Passes family moment (refresh ∷ more) lines router after =
    (between : RouterState) × (others : List ℕ) × Runs moment router Refresh between
    × (lines ≡ refresh_line between.machines.moment ++ others) × Passes family moment more others between after
Passes family moment (verdict of_packet ∷ more) lines router after = ⊥

-- `run`
pub record AnswersRun (family : AddressFamily) (moment : ℕ) (router : RouterState) (text : List ℕ) (after : RouterState) :
    Type 0 where
  pub reported : List RouterReport
  pub lines : List ℕ
  pub passes : Passes family moment reported lines router after
  pub text_is : text ≡ lines ++ ok_line
