-- The keys of due entries.
use Rattle.std.specs.Prelude.{◌≡◌, ℕ, List, Option, None, Some}
use Rattle.std.specs.List.{AllByRecursion}
use Rattle.std.specs.Option.{option_cmp}
use Rattle.std.specs.Ordering.{nat_cmp, ordering_then}
use Rattle.std.specs.declared.cmp.Ordering.{Ordering}
use Rattle.pim_down.specs.declared.machines.key.What.{What}
use Rattle.pim_down.specs.declared.machines.key.What.TheVariants.{Star, Source, Rpt}
use Rattle.pim_down.specs.declared.machines.event.Event.{Event as EventOf}
use Rattle.pim_down.specs.Seen.{event_seen}
use Rattle.pim_audit.specs.Order.{entry_rank}
use Rattle.pim_audit.specs.declared.due.Due.{Due}
use Rattle.pim_audit.specs.declared.entry_key.EntryKey.{EntryKey}

-- The order of keys: by group, by rank, then by source.
abbrev pub key_cmp : {A : Type 0} → (A → A → Ordering) → EntryKey A → EntryKey A → Ordering
key_cmp cmp a b =
    ordering_then (cmp a.group b.group) (ordering_then (nat_cmp a.rank b.rank) (option_cmp cmp a.source b.source))

-- The source of a machine; none of (*,G).
abbrev pub source_if_any : {A : Type 0} → What A → Option A
source_if_any Star = None
source_if_any (Source source) = Some source
source_if_any (Rpt source) = Some source

module _ {A : Type 0} (bytes_of : A → List ℕ) where
  -- The key of an entry.
  abbrev pub key_of : EventOf A → EntryKey A
  key_of entry = record { group = entry.group; rank = entry_rank (event_seen bytes_of entry); source = source_if_any entry.what }

  -- Each entry has its key.
  abbrev pub AreKeyed : List (EntryKey A × Due A) → Type 0
  AreKeyed entries = AllByRecursion (λ (e : EntryKey A × Due A). e.0 ≡ key_of e.1.entry) entries
