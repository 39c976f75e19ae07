-- The events of a replay, what a part of it reports, and what is written of that.
use Rattle.std.specs.Prelude.{◌≡◌, ℕ, ◌+◌, min, List, [], ◌∷◌, ◌++◌, Option, Result, Ok, Err}
use Rattle.std.specs.Io.KnownBytes.{Appends}
use Rattle.std.specs.List.{flat_map}
use Rattle.pim_device.specs.Device.{AppendsFront, top_count}
use Rattle.pim_down.specs.Seen.{what_seen}
use Rattle.pim_report.specs.declared.state_text.Counts.{Counts}
use Rattle.pim_router.specs.State.{RouterState}
use Rattle.pim_replay.specs.declared.event.ReplayEvent.{ReplayEvent}
use Rattle.pim_replay.specs.declared.event.ReplayEvent.TheVariants.{Packet, Echo}

-- ---- events

-- An event with its addresses as lists of bytes.
abbrev pub Event : Type 0
Event = ReplayEvent (List ℕ)

-- An event of the code as this.
abbrev pub event_seen : {A : Type 0} → (A → List ℕ) → ReplayEvent A → Event
event_seen bytes_of (Packet moment port source verdict) = Packet moment port (bytes_of source) verdict
event_seen bytes_of (Echo moment port group what) = Echo moment port (bytes_of group) (what_seen bytes_of what)

-- ---- accounts

-- What a part of a replay reports: its events, and its numbers of Refreshes and of skipped records.
pub record Account : Type 0 where
  pub events : List Event
  pub refreshes : ℕ
  pub skips : ℕ

-- The account of an empty part.
abbrev pub nothing : Account
nothing = record { events = []; refreshes = 0; skips = 0 }

-- The account of one event.
abbrev pub of_event : Event → Account
of_event event = record { events = event ∷ []; refreshes = 0; skips = 0 }

-- The account of this number of Refreshes.
abbrev pub of_refreshes : ℕ → Account
of_refreshes count = record { events = []; refreshes = count; skips = 0 }

-- The account of a skipped record.
abbrev pub one_skipped : Account
one_skipped = record { events = []; refreshes = 0; skips = 1 }

-- The account of one part followed by another.
abbrev pub joined : Account → Account → Account
joined first second = record {
  events = first.events ++ second.events;
  refreshes = first.refreshes + second.refreshes;
  skips = first.skips + second.skips;
}

-- The counts after a part with this account. Each stops at 2^64 - 1.
abbrev pub counted : Counts → Account → Counts
counted counts account = record {
  skipped = min (counts.skipped + account.skips) top_count;
  refreshes = min (counts.refreshes + account.refreshes) top_count;
}

-- A part and then another, from the router to which the first one leads. Each part says which
-- account leads to which router.
pub record Follows (One : Account → RouterState → Type 0) (Next : RouterState → Account → RouterState → Type 0)
    (account : Account) (after : RouterState) : Type 0 where
  pub first : Account
  pub between : RouterState
  pub begins : One first between
  pub second : Account
  pub goes_on : Next between second after
  pub account_is : account ≡ joined first second

-- ---- what a call returns and writes

-- `line` is what is written of an event. `Part` says which account leads to which router.
module _ (line : Event → List ℕ) (Part : Account → RouterState → Type 0) where
  -- All that is written of the part's events was written, and its counts were added.
  pub record HasWritten (after : RouterState) (old new : Option (List ℕ)) (counts counts' : Counts) : Type 0 where
    pub account : Account
    pub wrote : Part account after
    pub written : Appends old new (flat_map line account.events)
    pub is_counted : counts' ≡ counted counts account

  -- A prefix of what is written of such events was written.
  pub record HasBegun (old new : Option (List ℕ)) : Type 0 where
    pub account : Account
    pub after : RouterState
    pub wrote : Part account after
    pub written : AppendsFront old new (flat_map line account.events)

  -- What a call returns and writes that was given `counts` and leaves this router.
  abbrev pub Writes : {E : Type 0} → RouterState → Option (List ℕ) → Option (List ℕ) → Counts → Result Counts E → Type 0
  Writes after old new counts (Ok counts') = HasWritten after old new counts counts'
  Writes after old new counts (Err fault) = HasBegun old new
