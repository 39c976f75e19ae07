use Rattle.pim_hello.proofs.Words.{◌≡◌, ◌≤◌, length, without_ended, table_seen}
use Rattle.pim_hello.proofs.neighbours.Neighbours.expire.Given as goal

-- what is to be removed from here on is what was to be removed at the start
abbrev pub invariant-loop-removed : goal.invariant-loop-removed
invariant-loop-removed g l = (l.self-inside.moment ≡ l.initial.self-inside.moment)
    × (length l.self-inside.roster.neighbours.entries ≤ 1024)
    × (without_ended (table_seen g.F.Family.bytes_of l.self-inside.moment l.self-inside.roster.neighbours.entries)
    ≡ without_ended (table_seen g.F.Family.bytes_of l.self-inside.moment l.initial.self-inside.roster.neighbours.entries))

abbrev pub decreases-loop-removed : goal.decreases-loop-removed
decreases-loop-removed g l = length l.self-inside.roster.neighbours.entries
