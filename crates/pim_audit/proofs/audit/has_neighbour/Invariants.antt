use Rattle.pim_audit.proofs.Words.{◌≡◌, false, is_some, neighbour_at, some_below, table_at}
use Rattle.pim_audit.proofs.audit.has_neighbour.Given as goal

-- no port so far has the neighbour
abbrev pub invariant-loop-port : goal.invariant-loop-port
invariant-loop-port g l =
    some_below l.port (λ port. is_some (neighbour_at (g.F.Family.bytes_of l.address) (table_at port l.router))) ≡ false
