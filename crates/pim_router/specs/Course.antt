-- The course of a router over a list of inputs: what it reports, and the state after the last
-- input.
use Rattle.std.specs.Prelude.{◌≡◌, ℕ, List, [], ◌∷◌, ◌++◌}
use Rattle.pim_addr.specs.declared.family.AddressFamily.{AddressFamily}
use Rattle.pim_down.specs.declared.machines.key.What.{What}
use Rattle.pim_router.specs.declared.step.Step.TheVariants.{Echo, Refresh, Reached}
use Rattle.pim_router.specs.declared.verdict.Verdict.{Verdict}
use Rattle.pim_router.specs.Packets.{Packet, received}
use Rattle.pim_router.specs.State.{RouterState}
use Rattle.pim_router.specs.Time.{Runs}

-- An input: a moment, to which the router runs until nothing is due, or a packet, which it
-- receives. A packet with a time stamp is two inputs: its moment, and then the packet.
pub data Input : Type 0 where
  runs_to : ℕ → Input
  takes : Packet → Input

-- One report of the router: a PruneEcho or a refresh on the way to a moment, or the verdict on a
-- packet.
pub data RouterReport : Type 0 where
  echo : ℕ → List ℕ → What (List ℕ) → RouterReport
  refresh : RouterReport
  verdict : Verdict → RouterReport

-- Consecutive runs up to the moment until nothing is due: they report this list of echoes and
-- refreshes, and leave the state `after`.
unfoldable pub Reaches : ℕ → List RouterReport → RouterState → RouterState → Type 0
Reaches moment [] state after = Runs moment state Reached after
Reaches moment (echo port group what ∷ more) state after =
    (between : RouterState) × Runs moment state (Echo port group what) between × Reaches moment more between after
Reaches moment (refresh ∷ more) state after =
    (between : RouterState) × Runs moment state Refresh between × Reaches moment more between after
Reaches moment (verdict of_packet ∷ more) state after = ⊥

-- What the router reports of one input, and the state after it.
abbrev pub Gives : AddressFamily → Input → List RouterReport → RouterState → RouterState → Type 0
Gives family (runs_to moment) reported state after = Reaches moment reported state after
Gives family (takes packet) reported state after =
    (reported ≡ verdict (received family packet state).0 ∷ []) × (after ≡ (received family packet state).1)

-- Two steps one after the other: the reports of both joined, and the state between them.
pub record Follows (First Then : List RouterReport → RouterState → RouterState → Type 0) (reported : List RouterReport)
    (state after : RouterState) : Type 0 where
  pub before : List RouterReport
  pub behind : List RouterReport
  pub between : RouterState
  pub joined : reported ≡ before ++ behind
  pub begins : First before state between
  pub goes_on : Then behind between after

-- The router gets these inputs in order, reports `reported`, and has the state `after` at the end.
unfoldable pub IsCourse : AddressFamily → List Input → List RouterReport → RouterState → RouterState → Type 0
IsCourse family [] reported state after = (reported ≡ []) × (after ≡ state)
IsCourse family (input ∷ inputs) reported state after =
    Follows (Gives family input) (IsCourse family inputs) reported state after

-- There is a course over these inputs from this state.
pub record HasCourse (family : AddressFamily) (inputs : List Input) (state : RouterState) : Type 0 where
  pub reported : List RouterReport
  pub after : RouterState
  pub course : IsCourse family inputs reported state after
