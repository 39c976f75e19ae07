-- The downstream per-interface state machines of (*,G), (S,G) and (S,G,rpt) (RFC 7761, 4.5.1 to
-- 4.5.3, Figures 2 to 4): what an event of a message does to one machine. `None` is the state
-- NoInfo, since such a machine isn't held. Timers are countdowns in milliseconds: ET is the Expiry
-- Timer, where `None` is never, and PPT the Prune-Pending Timer.
use Rattle.std.specs.Prelude.{ℕ, Option, Some, None, max}
use Rattle.pim_down.specs.declared.machines.machine.State.{State}
use Rattle.pim_down.specs.declared.machines.machine.State.TheVariants.{Join, PrunePending, Prune, PruneTmp, PrunePendingTmp}
use Rattle.pim_down.specs.declared.machines.machine.Pending.{Pending}
use Rattle.pim_down.specs.declared.machines.machine.Machine.{Machine}

-- The values that a message gives the timers that it starts: ET by its holdtime, PPT by the port.
pub record Start : Type 0 where
  pub expires_in : Option ℕ
  pub pending : Pending

-- The greater of two times, where `None` is never, the greatest. A restarted Expiry Timer takes it.
abbrev pub greater : Option ℕ → Option ℕ → Option ℕ
greater None _ = None
greater (Some a) None = None
greater (Some a) (Some b) = Some (max a b)

-- A machine in this state with these timers.
abbrev pub machine_in : State → Option ℕ → Option Pending → Option Machine
machine_in state expiry pending = Some (record { state = state; expires_in = expiry; pending = pending })

-- ---- (*,G), Figure 2, and (S,G), Figure 3

-- Receive Join(*,G) or Join(S,G), by the state of a held machine.
abbrev pub join_in : State → Start → Machine → Option Machine
join_in Join start held = machine_in Join (greater held.expires_in start.expires_in) held.pending
join_in PrunePending start held = machine_in Join (greater held.expires_in start.expires_in) None
join_in _ start held = Some held

-- Receive Join(*,G) at a (*,G) machine (Figure 2), and Receive Join(S,G) at an (S,G) machine
-- (Figure 3).
unfoldable pub on_join : Start → Option Machine → Option Machine
on_join start None = machine_in Join start.expires_in None
on_join start (Some held) = join_in held.state start held

-- Receive Prune(*,G) or Prune(S,G), by the state of a held machine.
abbrev pub prune_in : State → Start → Machine → Option Machine
prune_in Join start held = machine_in PrunePending held.expires_in (Some start.pending)
prune_in _ start held = Some held

-- Receive Prune(*,G) at a (*,G) machine (Figure 2), and Receive Prune(S,G) at an (S,G) machine
-- (Figure 3). A second Prune in Prune-Pending changes nothing, so a repeated Prune can't defer the
-- end.
unfoldable pub on_prune : Start → Option Machine → Option Machine
on_prune start None = None
on_prune start (Some held) = prune_in held.state start held

-- ---- (S,G,rpt), Figure 4

-- Receive Join(*,G), by the state of a held (S,G,rpt) machine of the group.
abbrev pub star_join_in : State → Machine → Option Machine
star_join_in Prune held = machine_in PruneTmp held.expires_in held.pending
star_join_in PrunePending held = machine_in PrunePendingTmp held.expires_in held.pending
star_join_in _ held = Some held

-- Receive Join(*,G) at an (S,G,rpt) machine of the group (Figure 4). In PruneTmp and
-- Prune-Pending-Tmp it changes nothing, a choice of this project.
unfoldable pub on_star_join : Option Machine → Option Machine
on_star_join None = None
on_star_join (Some held) = star_join_in held.state held

-- Receive Join(S,G,rpt) (Figure 4): the machine ends in every state. For the Tmp states this is a
-- choice of this project.
abbrev pub on_rpt_join : Option Machine → Option Machine
on_rpt_join _ = None

-- Receive Prune(S,G,rpt), by the state of a held (S,G,rpt) machine.
abbrev pub rpt_prune_in : State → Start → Machine → Option Machine
rpt_prune_in Prune start held = machine_in Prune (greater held.expires_in start.expires_in) held.pending
rpt_prune_in PruneTmp start held = machine_in Prune (greater held.expires_in start.expires_in) held.pending
rpt_prune_in PrunePendingTmp start held =
    machine_in PrunePending (greater held.expires_in start.expires_in) held.pending
rpt_prune_in _ start held = Some held

-- Receive Prune(S,G,rpt) (Figure 4). A second one in Prune-Pending changes nothing, a choice of
-- this project.
unfoldable pub on_rpt_prune : Start → Option Machine → Option Machine
on_rpt_prune start None = machine_in PrunePending start.expires_in (Some start.pending)
on_rpt_prune start (Some held) = rpt_prune_in held.state start held

-- End of Message, by the state of a held (S,G,rpt) machine.
abbrev pub end_in : State → Machine → Option Machine
end_in PruneTmp held = None
end_in PrunePendingTmp held = None
end_in _ held = Some held

-- End of Message at an (S,G,rpt) machine (Figure 4): one in PruneTmp or Prune-Pending-Tmp ends.
unfoldable pub on_end : Option Machine → Option Machine
on_end None = None
on_end (Some held) = end_in held.state held
