use Rattle.pim_router.proofs.Words.{◌≡◌, ◌++◌, map, take, drop, expired_at}
use Rattle.pim_router.proofs.router.expire_all.Given as goal

abbrev pub invariant-loop-table : goal.invariant-loop-table
invariant-loop-table g l = l.tables ≡ map (expired_at l.now) (take l.table-index l.fn.tables) ++ drop l.table-index l.fn.tables
