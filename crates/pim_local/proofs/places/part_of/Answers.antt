use Rattle.pim_local.proofs.Words.{rules, of_calls, is_lt, is_le, IsPartitionPoint-from_clause, join_seen}
use Rattle.pim_local.proofs.Parts.{begins, ends, part_is}
use Rattle.pim_local.specs.declared.join.LocalJoin.{LocalJoin}
use Rattle.pim_local.proofs.places.part_of.Goals as goal

pub returns : goal.returns
returns g c =
    let seen = join_seen g.F.Family.bytes_of in
    let group = g.F.Family.bytes_of c.args.group in
    let cmp = λ (held : LocalJoin g.row.F-Addr.Denot). g.F.Addr.Ord.cmp held.group c.args.group in
    let order = λ (held : LocalJoin g.row.F-Addr.Denot). g.met.F.Family.order_of_bytes held.group c.args.group in
    let first = IsPartitionPoint-from_clause (λ held. is_lt (cmp held)) _ _ c.partition_point-begin.ensures.partitioned (begins seen group cmp order c.args.joins.now c.requires) (λ a r f k. search (rules, of_calls)) in
    let second = IsPartitionPoint-from_clause (λ held. is_le (cmp held)) _ _ c.partition_point-end.ensures.partitioned
    (ends seen group cmp order c.args.joins.now _ _ c.requires c.split_at.ensures.back) (λ a r f k. search (rules, of_calls)) in
    part_is seen group cmp order c.args.joins.now _ _ _ _ c.partition_point-begin.ensures.bound first c.split_at.ensures.back c.partition_point-end.ensures.bound second c.split_at-2.ensures.front
