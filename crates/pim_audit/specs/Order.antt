-- The order of due entries: that in which messages announce a change (RFC 7761, 4.5 and 4.9.5).
use Rattle.std.specs.Prelude.{ℕ, ◌+◌, Bool, true, false, List}
use Rattle.std.specs.declared.cmp.Ordering.{Ordering}
use Rattle.std.specs.Ordering.{nat_cmp, ordering_then, is_eq}
use Rattle.std.specs.List.Sorted.{IsStrictlySortedBy}
use Rattle.pim_down.specs.declared.machines.key.What.{What}
use Rattle.pim_down.specs.declared.machines.key.What.TheVariants.{Star, Source, Rpt}
use Rattle.pim_down.specs.Hearing.{Event}
use Rattle.pim_down.specs.Key.{address_cmp, what_cmp}

-- The rank of a Join of this machine within its group: (*,G), (S,G,rpt), (S,G).
abbrev pub join_rank : What (List ℕ) → ℕ
join_rank Star = 0
join_rank (Rpt source) = 2
join_rank (Source source) = 4

-- A Prune comes right after the Join of its machine.
abbrev pub ranked : Bool → ℕ → ℕ
ranked true of_join = of_join
ranked false of_join = of_join + 1

-- The rank of an entry within its group.
abbrev pub entry_rank : Event → ℕ
entry_rank entry = ranked entry.joins (join_rank entry.what)

-- The order of entries: by group, by rank, then by source.
unfoldable pub entry_cmp : Event → Event → Ordering
entry_cmp a b =
    ordering_then (ordering_then (address_cmp a.group b.group) (nat_cmp (entry_rank a) (entry_rank b))) (what_cmp a.what b.what)

-- Both are the same entry.
abbrev pub same_entry : Event → Event → Bool
same_entry a b = is_eq (entry_cmp a b)

-- The entries ascend strictly.
abbrev pub EntriesAscend : List Event → Type 0
EntriesAscend entries = IsStrictlySortedBy entry_cmp entries
