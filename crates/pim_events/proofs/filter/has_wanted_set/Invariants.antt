use Rattle.std.proofs.Common.{◌≡◌, map}
use Rattle.std.specs.List.{list_any}
use Rattle.pim_events.specs.Filter.{is_wanted_set}
use Rattle.pim_events.proofs.filter.has_wanted_set.Given as goal

-- one of the sets that are left is wanted exactly where one of all is
abbrev pub invariant-loop-set : goal.invariant-loop-set
invariant-loop-set g l =
    list_any (is_wanted_set (map g.F.Family.bytes_of l.groups) (map g.F.Family.bytes_of l.sources)) l.set-iterator
    ≡ list_any (is_wanted_set (map g.F.Family.bytes_of l.groups) (map g.F.Family.bytes_of l.sources)) l.message.sets
