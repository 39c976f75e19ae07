use Rattle.pim_transitions.proofs.Words.{◌≡◌, map, drop, nat_eq, pointwise, list_any}
use Rattle.pim_transitions.proofs.stars.is_among.Given as goal

-- one of those that are left is the group exactly where one of all is
abbrev pub invariant-loop-other : goal.invariant-loop-other
invariant-loop-other g l =
    let bytes_of = g.F.Family.bytes_of in
    list_any (λ other. pointwise nat_eq other (bytes_of l.group)) (map bytes_of (drop l.other-index l.groups))
    ≡ list_any (λ other. pointwise nat_eq other (bytes_of l.group)) (map bytes_of l.groups)
