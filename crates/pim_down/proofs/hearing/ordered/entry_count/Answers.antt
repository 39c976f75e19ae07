use Rattle.pim_down.proofs.Words.{List, true, false, length, ap, arith, GroupSet}
use Rattle.pim_down.proofs.Events.{set_count_is, no_set_count, list_bound}
use Rattle.pim_down.proofs.hearing.ordered.entry_count.Goals as goal

pub loop-set-preserved : goal.loop-set-preserved
loop-set-preserved g c =
    let long = ap (λ (sets : List GroupSet). length sets) c.in-Some.ensures.steps in
    record {
      events = λ known port records.
          let set = c.in-Some.set in
          let split = set_count_is port records known set c.loop-set.set-iterator c.next.new.self c.in-Some.ensures.steps in
          let joined = list_bound port records known true set.group set.joined in
          let pruned = list_bound port records known false set.group set.pruned in
          let so_far = c.loop-set.invariant.events known port records in
          omega (arith, c.joined_count.ensures, c.pruned_count.ensures, c.from.ensures, c.from-in-loop-set.ensures);
      bound = omega (arith, c.loop-set.invariant.bound, c.joined_count.type_inv, c.pruned_count.type_inv, c.from.ensures, c.from-in-loop-set.ensures);
    }

pub returns-clause-events : goal.returns-clause-events
returns-clause-events g c = λ known port records.
    let none = no_set_count port records known c.loop-set.set-iterator c.in-None.ensures.steps.0 in
    let so_far = c.loop-set.invariant.events known port records in
    omega arith
