use Rattle.std.proofs.Common.{◌<◌, arith}
use Rattle.pim_jp.proofs.Walks.{holds_first}
use Rattle.pim_jp.proofs.sets.SetsIterator.next.Goals as goal

pub lists_of-lists-requires : goal.lists_of-lists-requires
lists_of-lists-requires g c = let some : 0 < c.self.inside.left = omega arith in holds_first _ _ _ some c.self.invariant

pub new-set-requires-clause-long : goal.new-set-requires-clause-long
new-set-requires-clause-long g c = let some : 0 < c.self.inside.left = omega arith in holds_first _ _ _ some c.self.invariant
