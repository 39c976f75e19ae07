use Rattle.pim_down.proofs.Words.{◌≡◌, ℕ, List, ◌+◌, ◌<◌, ◌≤◌, length, at, IsItem, put_off_from, IsKept}
use Rattle.pim_down.proofs.records.store.put_off_rows.Given as goal

abbrev pub invariant-loop-left : goal.invariant-loop-left
invariant-loop-left g l = record {
  items : put_off_from (at l.list l.here) l.left l.to l.list.items ≡ put_off_from (at l.fn.list l.fn.place) l.fn.count l.to l.fn.list.items;
  kept : (counts rpts : List ℕ) → length counts ≡ 64 → length rpts ≡ 64 → IsKept counts rpts l.fn.list → IsKept counts rpts l.list;
  index : l.list.index ≡ l.fn.list.index;
  capacity : l.list.capacity ≡ l.fn.list.capacity;
  item : 0 < l.left → IsItem l.list l.here;
  within : at l.list l.here + l.left ≤ length l.list.items;
}

abbrev pub decreases-loop-left : goal.decreases-loop-left
decreases-loop-left g l = l.left
