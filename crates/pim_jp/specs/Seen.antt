-- How contracts see an entry or a group set whose addresses have the type of one family: with each
-- address as its bytes.
use Rattle.std.specs.Prelude.{ℕ, List, map}
use Rattle.pim_jp.specs.declared.entry.Entry.{Entry}
use Rattle.pim_jp.specs.Message.{GroupSet}
use Rattle.pim_jp.specs.declared.entry.Entry.TheVariants.{Star, Source, Rpt}

-- The entry with its address as bytes.
abbrev pub entry_seen : {A : Type 0} → (A → List ℕ) → Entry A → Entry (List ℕ)
entry_seen bytes_of (Star rp) = Star (bytes_of rp)
entry_seen bytes_of (Source source) = Source (bytes_of source)
entry_seen bytes_of (Rpt source) = Rpt (bytes_of source)

-- The group set of a group, its joined entries and its pruned entries, with addresses as bytes.
abbrev pub set_seen : {A : Type 0} → (A → List ℕ) → A → List (Entry A) → List (Entry A) → GroupSet
set_seen bytes_of group joined pruned = record {
  group = bytes_of group;
  joined = map (entry_seen bytes_of) joined;
  pruned = map (entry_seen bytes_of) pruned;
}
