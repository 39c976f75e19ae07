-- Parts of a machine that may not be held.
use Rattle.std.specs.Prelude.{Option, None, Some}
use Rattle.pim_down.specs.declared.machines.machine.Machine.{Machine}
use Rattle.pim_down.specs.declared.machines.machine.Pending.{Pending}
use Rattle.pim_down.specs.declared.machines.machine.State.{State}

-- The state of the machine; none is NoInfo.
abbrev pub state_in : Option Machine → Option State
state_in None = None
state_in (Some machine) = Some machine.state

-- The Prune-Pending Timer of the machine, if it runs.
abbrev pub pending_in : Option Machine → Option Pending
pending_in None = None
pending_in (Some machine) = machine.pending
