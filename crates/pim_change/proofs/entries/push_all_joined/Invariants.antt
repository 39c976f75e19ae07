use Rattle.pim_change.proofs.Words.{◌≡◌, ◌++◌, map, drop, flat_map, rp_of, entry_seen, actions_seen, joined_entries}
use Rattle.pim_change.proofs.entries.push_all_joined.Given as goal

-- what is there and what is left to add are all
abbrev pub invariant-loop-unit : goal.invariant-loop-unit
invariant-loop-unit g l =
    let bytes_of = g.F.Family.bytes_of in
    map (entry_seen bytes_of) l.entries.items
    ++ flat_map (joined_entries (rp_of g.F.Family.family l.routes (bytes_of l.group)))
    (actions_seen bytes_of (drop l.unit-index l.units))
    ≡ map (entry_seen bytes_of) l.fn.entries.items
    ++ flat_map (joined_entries (rp_of g.F.Family.family l.routes (bytes_of l.group)))
    (actions_seen bytes_of l.units)
