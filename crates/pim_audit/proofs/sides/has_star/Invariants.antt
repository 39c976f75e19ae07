use Rattle.pim_audit.proofs.GatherWords.{◌≡◌, false, Star, is_joined, some_below, state_on}
use Rattle.pim_audit.proofs.sides.has_star.Given as goal

-- no port so far has the star
abbrev pub invariant-loop-port : goal.invariant-loop-port
invariant-loop-port g l =
    some_below l.port (λ port. is_joined (state_on l.ports.records port (g.F.Family.bytes_of l.group) Star)) ≡ false
