use Rattle.pim_addr.proofs.Words.{◌≡◌, ℕ, suc, List, map, ap, arith, before, IsEnd}
use Rattle.pim_addr.proofs.OneMoreEnd.{before_rises}
use Rattle.pim_addr.proofs.ranges.start_at.Goals as goal

pub returns-clause-start : goal.returns-clause-start
returns-clause-start g c other l =
    let ends : List ℕ = map g.F.Family.value_of c.end_at.new.ends.items in
    let last : ℕ = g.F.Family.value_of c.in-Some.last_before in
    let next : suc last ≡ g.F.Family.value_of c.args.number = c.in-Some.ensures in
    let end : IsEnd last ends = c.end_at.ensures.end in
    omega (arith, before_rises other last ends (omega (arith, l, next)), end, ap (λ n. before n ends) next)
