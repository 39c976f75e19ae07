use Rattle.pim_down.proofs.Words.{List, length, ap, arith, GroupSet, rp_of, records_seen}
use Rattle.pim_down.proofs.Events.{set_count_is, no_set_count}
use Rattle.pim_down.proofs.hearing.message.count_sets.Goals as goal

pub loop-set-preserved : goal.loop-set-preserved
loop-set-preserved g c =
    let split = set_count_is c.args.port (records_seen g.F.Family.bytes_of c.args.records.now.items) (rp_of g.F.Family.family c.args.routes.now) c.in-Some.set c.loop-set.set-iterator c.next.new.self c.in-Some.ensures.steps in
    let joined = rw (c.group-group.ensures, c.joined-entries.ensures) at c.count_list-joined.ensures.count in
    let pruned = rw (c.group-group.ensures, c.pruned-entries.ensures) at c.count_list-pruned.ensures.count in
    let long = ap (λ (sets : List GroupSet). length sets) c.in-Some.ensures.steps in
    record {
      so_far = omega (arith, c.loop-set.invariant.so_far);
      bound = omega (arith, c.loop-set.invariant.bound, c.count_list-joined.ensures.bound, c.count_list-pruned.ensures.bound);
    }

pub returns-clause-count : goal.returns-clause-count
returns-clause-count g c =
    let none = no_set_count c.args.port (records_seen g.F.Family.bytes_of c.args.records.now.items) (rp_of g.F.Family.family c.args.routes.now) c.loop-set.set-iterator c.in-None.ensures.steps.0 in
    let so_far = c.loop-set.invariant.so_far in
    omega arith
