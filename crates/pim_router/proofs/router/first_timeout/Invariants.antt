use Rattle.pim_router.proofs.Words.{◌≡◌, drop, sooner, first_timeout}
use Rattle.pim_router.proofs.router.first_timeout.Given as goal

-- the first of those so far and of those that are left is the first of all
abbrev pub invariant-loop-table : goal.invariant-loop-table
invariant-loop-table g l = sooner l.first (first_timeout (drop l.table-index l.tables)) ≡ first_timeout l.tables
