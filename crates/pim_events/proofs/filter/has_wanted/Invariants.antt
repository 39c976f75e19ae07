use Rattle.std.proofs.Common.{◌≡◌, map}
use Rattle.std.specs.List.{list_any}
use Rattle.pim_events.specs.Filter.{is_wanted_entry}
use Rattle.pim_events.proofs.filter.has_wanted.Given as goal

-- one of the entries that are left is wanted exactly where one of all is
abbrev pub invariant-loop-entry : goal.invariant-loop-entry
invariant-loop-entry g l =
    list_any (is_wanted_entry (map g.F.Family.bytes_of l.sources)) l.entry-iterator
    ≡ list_any (is_wanted_entry (map g.F.Family.bytes_of l.sources)) l.fn.entries
