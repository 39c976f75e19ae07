use Rattle.std.proofs.Common.{◌≡◌, drop, map}
use Rattle.std.specs.List.{list_any}
use Rattle.std.specs.Str.{bytes_eq}
use Rattle.pim_events.proofs.filter.is_among.Given as goal

-- one of those that are left is the address exactly where one of all is
abbrev pub invariant-loop-one : goal.invariant-loop-one
invariant-loop-one g l =
    list_any (λ one. bytes_eq one (g.F.Family.bytes_of l.address)) (map g.F.Family.bytes_of (drop l.one-index l.addresses))
    ≡ list_any (λ one. bytes_eq one (g.F.Family.bytes_of l.address)) (map g.F.Family.bytes_of l.addresses)
