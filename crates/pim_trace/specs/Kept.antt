-- How contracts see what a trace remembers.
use Rattle.std.specs.Prelude.{ℕ, ◌==◌, ◌&&◌, nat_eq, List, Option, option_map}
use Rattle.std.specs.Cmp.Lexicographic.{pointwise}
use Rattle.std.specs.Map.{lookup}
use Rattle.pim_down.specs.declared.machines.key.Key.{Key}
use Rattle.pim_events.specs.Events.{cause_seen}
use Rattle.pim_trace.specs.declared.ledger.Causes.{Causes}
use Rattle.pim_trace.specs.declared.ledger.Sent.{Sent}
use Rattle.pim_trace.specs.declared.ledger.Ledger.{Ledger as Kept}
use Rattle.pim_trace.specs.Ledger.{Ledger}
use Rattle.pim_trace.specs.Machines.{held_for}

module _ {A : Type 0} (bytes_of : A → List ℕ) where
  -- The packets that set the timers of a machine, with addresses as lists of bytes.
  abbrev pub causes_seen : Causes A → Causes (List ℕ)
  causes_seen causes = record {
    expiry = cause_seen bytes_of causes.expiry;
    pending = cause_seen bytes_of causes.pending;
    since = causes.since;
  }

  -- What these entries of a map hold for the neighbour of a port with this address.
  unfoldable pub hellos_in : List ((ℕ × A) × Sent) → ℕ → List ℕ → Option Sent
  hellos_in entries port address =
      lookup (λ (at : ℕ × A). port == at.0 && pointwise nat_eq address (bytes_of at.1)) entries

  -- What these items hold for a machine.
  unfoldable pub causes_in : List (Key A × Causes A) → Key (List ℕ) → Option (Causes (List ℕ))
  causes_in items key = option_map causes_seen (held_for bytes_of items key)

  -- What a trace remembers.
  abbrev pub ledger_seen : {F N : Type 0} → Kept F A N → Ledger
  ledger_seen kept = record {
    frames = kept.frames.items;
    begin = kept.begin;
    own = kept.own.items;
    hellos = hellos_in kept.hellos.entries;
    causes = causes_in kept.causes.items;
    skipped = kept.skipped;
  }
