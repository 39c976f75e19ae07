use Rattle.std.proofs.Common.{sym, ◌∙◌}
use Rattle.sorted_slab.proofs.Found.{walk_end, walk_steps, held_first, goes}
use Rattle.sorted_slab.proofs.walk.WalkIterator.next.Goals as goal

pub returns-in_err-number-clause-steps : goal.returns-in_err-number-clause-steps
returns-in_err-number-clause-steps g c =
    let none = (c.in_err-number.ensures {u = tt}).steps in
    rw c.from_residual.ensures (sym c.self.view_is ∙ walk_end c.self.inside.left c.self.inside.slab.now c.self.inside.numbers none.0, walk_end c.self.inside.left c.self.inside.slab.now c.next.new.self none.1)

pub invariant_of-self-2 : goal.invariant_of-self-2
invariant_of-self-2 g c = (held_first c.self.inside.slab.now c.self.inside.numbers c.next.new.self c.in_ok-number.number c.self.invariant (c.in_ok-number.ensures {u = tt}).steps).1

pub returns-clause-steps : goal.returns-clause-steps
returns-clause-steps g c = rw (sym c.self.view_is) (walk_steps c.self.inside.left c.self.inside.slab.now c.self.inside.numbers c.next.new.self c.in_ok-number.number c.get.result c.if-self-eq0.false c.self.invariant (c.in_ok-number.ensures {u = tt}).steps c.get.ensures)

pub returns-clause-goes : goal.returns-clause-goes
returns-clause-goes g c = goes (λ xs. Unit {0}) (λ xs. tt) c.args.self.now _ c.get.result (returns-clause-steps g c)
