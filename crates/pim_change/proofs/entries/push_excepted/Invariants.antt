use Rattle.pim_change.proofs.Words.{◌≡◌, ◌++◌, map, drop, entry_seen, excepted_entries}
use Rattle.pim_change.proofs.entries.push_excepted.Given as goal

-- what is there and what is left to add are all
abbrev pub invariant-loop-source : goal.invariant-loop-source
invariant-loop-source g l =
    let bytes_of = g.F.Family.bytes_of in
    map (entry_seen bytes_of) l.entries.items ++ excepted_entries (map bytes_of (drop l.source-index l.exceptions))
    ≡ map (entry_seen bytes_of) l.fn.entries.items ++ excepted_entries (map bytes_of l.exceptions)
