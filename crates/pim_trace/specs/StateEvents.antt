-- The events of the state at the end of a run: the machines that the router holds, then what it
-- wants.
use Rattle.std.specs.Prelude.{ℕ, ◌-◌, List, [], ◌∷◌, ◌++◌, map, Option, None, Some}
use Rattle.std.specs.List.{flat_map}
use Rattle.pim_addr.specs.declared.family.AddressFamily.{AddressFamily}
use Rattle.pim_addr.specs.Routes.{RouteTable, rp_of}
use Rattle.pim_down.specs.declared.machines.machine.Record.{Record}
use Rattle.pim_form.specs.NormalForm.{GroupForm}
use Rattle.pim_form.specs.Toward.{via_of, star_rpf_neighbour}
use Rattle.pim_router.specs.State.{RouterState}
use Rattle.pim_events.specs.declared.event.HeldMachine.{HeldMachine}
use Rattle.pim_events.specs.declared.event.WantedEntry.{WantedEntry}
use Rattle.pim_events.specs.declared.event.WantedWhat.{WantedWhat}
use Rattle.pim_events.specs.declared.event.WantedWhat.TheVariants.{Star, Source, Except}
use Rattle.pim_events.specs.Events.{Occurrence, machine_held, entry_wanted}
use Rattle.pim_trace.specs.declared.ledger.Causes.{Causes}
use Rattle.pim_trace.specs.Ledger.{Ledger, causes_of, epoch_of}
use Rattle.pim_trace.specs.Heard.{event_on}

-- ---- what the router holds

-- A machine that is held at this moment: for how long it wasn't in NoInfo, and the packet that set
-- its Expiry Timer.
abbrev pub held_machine : Ledger → ℕ → Record (List ℕ) → HeldMachine (List ℕ)
held_machine ledger ms reported =
    let causes : Causes (List ℕ) = causes_of reported.key ledger in
    record {
      group = reported.key.group;
      what = reported.key.what;
      machine = reported.machine;
      held_for = ms - causes.since;
      cause = causes.expiry;
    }

-- The event of a machine that is held at this moment.
abbrev pub held_event : Ledger → ℕ → Record (List ℕ) → Occurrence
held_event ledger ms reported = event_on ledger ms reported.key.port (machine_held (held_machine ledger ms reported))

-- ---- what it wants

-- This is wanted of a group, from this upstream neighbour.
abbrev pub wanted_of : List ℕ → Option (List ℕ) → WantedWhat (List ℕ) → WantedEntry (List ℕ)
wanted_of group via what = record { group = group; what = what; via = via }

module _ (family : AddressFamily) (routes : RouteTable) where
  -- The star of a group and its exceptions, if it has a star. All are wanted from RPF'(*,G) of RFC
  -- 7761, 4.1, without asserts.
  abbrev pub star_entries : List ℕ → Option (List (List ℕ)) → List (WantedEntry (List ℕ))
  star_entries group None = []
  star_entries group (Some exceptions) =
      let via : Option (List ℕ) = star_rpf_neighbour (via_of family routes) (rp_of family routes group) in
      wanted_of group via Star ∷ map (λ source. wanted_of group via (Except source)) exceptions

  -- A source of a group on its own tree. It is wanted from RPF'(S,G), without asserts.
  abbrev pub source_entry : List ℕ → List ℕ → WantedEntry (List ℕ)
  source_entry group source = wanted_of group (via_of family routes source) (Source source)

  -- What is wanted of a group: its star with the exceptions, then its sources.
  abbrev pub group_entries : GroupForm → List (WantedEntry (List ℕ))
  group_entries form = star_entries form.group form.star ++ map (source_entry form.group) form.sources

  -- What is wanted of all groups, in the order of the normal form.
  abbrev pub demand_entries : List GroupForm → List (WantedEntry (List ℕ))
  demand_entries form = flat_map group_entries form

-- The event of what is wanted. It concerns all ports.
abbrev pub wanted_event : ℕ → Option ℕ → WantedEntry (List ℕ) → Occurrence
wanted_event ms epoch entry = record { ms = ms; epoch = epoch; port = None; what = entry_wanted entry }

-- ---- both

-- The events of the machines, in key order.
abbrev pub held_events : Ledger → RouterState → List Occurrence
held_events ledger state = map (held_event ledger state.machines.moment) state.machines.records

-- The events of what is wanted, where this is the normal form of the demand.
abbrev pub wanted_events : AddressFamily → Ledger → RouterState → List GroupForm → List Occurrence
wanted_events family ledger state form =
    map (wanted_event state.machines.moment (epoch_of state.machines.moment ledger))
    (demand_entries family state.routes form)

-- The events of the state, where this is the normal form of the demand.
abbrev pub state_events : AddressFamily → Ledger → RouterState → List GroupForm → List Occurrence
state_events family ledger state form = held_events ledger state ++ wanted_events family ledger state form
