use Rattle.pim_down.proofs.Words.{◌≡◌, ℕ, ◌+◌, length, drop, at, AreJoinedUntil, records_seen}
use Rattle.pim_down.proofs.hearing.refresh.count_refreshed.Given as goal

-- with those that are left, those so far are named
abbrev pub invariant-loop-held : goal.invariant-loop-held
invariant-loop-held g l = record {
  joined : (n : ℕ) → AreJoinedUntil l.port (g.F.Family.bytes_of l.group) l.from n (records_seen g.F.Family.bytes_of l.held-iterator) l.left → AreJoinedUntil l.port (g.F.Family.bytes_of l.group) l.from (l.count + n) (records_seen g.F.Family.bytes_of (drop (at l.records l.fn.place) l.records.items)) l.fn.entries;
  left : l.count + length l.left ≡ length l.fn.entries;
}
