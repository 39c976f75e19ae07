-- What a call writes that goes on with a trace.
use Rattle.std.specs.Prelude.{ℕ, List, map, Option, Result, Ok, Err}
use Rattle.std.specs.Io.KnownBytes.{Appends}
use Rattle.std.specs.List.{flat_map}
use Rattle.pim_device.specs.Device.{AppendsFront}
use Rattle.pim_router.specs.State.{RouterState}
use Rattle.pim_events.specs.declared.event.WantedEntry.{WantedEntry}
use Rattle.pim_events.specs.Events.{Happened, Occurrence}
use Rattle.pim_trace.specs.Ledger.{Ledger}
use Rattle.pim_trace.specs.Heard.{event_on}
use Rattle.pim_trace.specs.StateEvents.{wanted_event}

-- `line` is what is written of an event. `Are` says of events which ledger and which router they
-- lead to.
module _ (line : Occurrence → List ℕ) (Are : List Occurrence → Ledger → RouterState → Type 0) where
  -- All of the events were written that lead to this ledger and this router.
  pub record HasWritten (ledger : Ledger) (after : RouterState) (old new : Option (List ℕ)) : Type 0 where
    pub events : List Occurrence
    pub are : Are events ledger after
    pub written : Appends old new (flat_map line events)

  -- A front of what is written of such events was written.
  pub record HasBegun (old new : Option (List ℕ)) : Type 0 where
    pub events : List Occurrence
    pub ledger : Ledger
    pub after : RouterState
    pub are : Are events ledger after
    pub written : AppendsFront old new (flat_map line events)

  -- What a call writes that leaves this ledger and this router: at Ok all events that lead to them.
  -- At Err a front of what is written of the events that lead on from where the call began.
  abbrev pub Writes : {A E : Type 0} → Ledger → RouterState → Option (List ℕ) → Option (List ℕ) → Result A E → Type 0
  Writes ledger after old new (Ok done) = HasWritten ledger after old new
  Writes ledger after old new (Err fault) = HasBegun old new

-- What is written of what happens on a port at one moment. `line` is what is written of an event.
abbrev pub text_on : (Occurrence → List ℕ) → Ledger → ℕ → ℕ → List Happened → List ℕ
text_on line ledger ms port happened = flat_map line (map (event_on ledger ms port) happened)

-- What is written of what is wanted at one moment with this time.
abbrev pub wanted_text : (Occurrence → List ℕ) → ℕ → Option ℕ → List (WantedEntry (List ℕ)) → List ℕ
wanted_text line ms epoch entries = flat_map line (map (wanted_event ms epoch) entries)
