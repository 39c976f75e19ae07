-- What a port hears of one sender (RFC 7761, 4.5): Join/Prune messages that ask for traffic and
-- prune exceptions from it. Each entry creates a machine that no other entry names.
use Rattle.std.specs.Prelude.{◌≡◌, ℕ, Bool, true, false, List, [], ◌∷◌}
use Rattle.std.specs.List.{list_any}
use Rattle.pim_down.specs.declared.machines.key.What.TheVariants.{Star}
use Rattle.pim_down.specs.declared.machines.key.Key.{Key}
use Rattle.pim_down.specs.declared.machines.event.Timing.{Timing}
use Rattle.pim_down.specs.Key.{same_key}
use Rattle.pim_down.specs.Tables.{Start}
use Rattle.pim_down.specs.Hearing.{Event, key_of, start_of, is_rpt, creates}

-- The messages of one sender, and the port that hears them.
pub record Exchange : Type 0 where
  -- the events of each message, by its number
  pub messages : ℕ → List Event
  -- the holdtime of all messages, in seconds
  pub holdtime : ℕ
  pub port : ℕ
  -- the override interval of the port, and whether it has several neighbours
  pub timing : Timing

-- The Expiry Timer and the Prune-Pending Timer that each message starts.
abbrev pub starts : Exchange → Start
starts exchange = start_of exchange.holdtime exchange.timing

-- Whether one of these events names the machine.
abbrev pub has_unit_of : ℕ → Key (List ℕ) → List Event → Bool
has_unit_of port key events = list_any (λ event. same_key (key_of port event) key) events

-- The (*,G) machine of a group on the port.
abbrev pub star_at : ℕ → List ℕ → Key (List ℕ)
star_at port group = record { port = port; group = group; what = Star }

-- After the events `before`, each event creates a machine that no earlier event names. An (S,G,rpt)
-- machine comes only after the Join(*,G) of its group.
unfoldable pub AreUnits : ℕ → List Event → List Event → Type 0
AreUnits port before [] = Unit {0}
AreUnits port before (event ∷ events) =
    (creates event ≡ true)
    × (has_unit_of port (key_of port event) before ≡ false)
    × (is_rpt event.what ≡ true → has_unit_of port (star_at port event.group) before ≡ true)
    × AreUnits port (event ∷ before) events

-- The events of each message create different machines, an exception only after its star, and no
-- machine is named by two messages.
pub record HasUnitsOnce (exchange : Exchange) : Type 0 where
  pub units : (i : ℕ) → AreUnits exchange.port [] (exchange.messages i)
  pub once : (i j : ℕ) (key : Key (List ℕ)) →
      has_unit_of exchange.port key (exchange.messages i) ≡ true →
      has_unit_of exchange.port key (exchange.messages j) ≡ true → i ≡ j
