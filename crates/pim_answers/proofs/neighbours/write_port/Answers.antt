use Rattle.pim_answers.proofs.Words.{List, ℕ, refl, sym, subst, ◌∙◌, flat_map, Neighbour, neighbour_line}
use Rattle.pim_answers.proofs.Written.{IsLeft, left_all, first_written, first_stopped, none_left, stopped}
use Rattle.pim_answers.proofs.neighbours.write_port.Goals as goal

pub loop-neighbour-init : goal.loop-neighbour-init
loop-neighbour-init g c =
    let old = g.W.Drain.contents c.args.writer.now in
    let text = neighbour_line g.F.Family.family c.args.port in
    (subst (λ (left : List (List ℕ × Neighbour)). IsLeft old old (flat_map text left) (flat_map text c.args.neighbours)) (sym c.into_iter-neighbour-iterator.ensures.into_iter_gives) (left_all old _), refl)

pub returns-in_err-write_neighbour-clause-bytes : goal.returns-in_err-write_neighbour-clause-bytes
returns-in_err-write_neighbour-clause-bytes g c =
    stopped _ _ c.from_residual.result _ c.from_residual.ensures.0
    (first_stopped (neighbour_line g.F.Family.family c.args.port) _ _ _ _ _ _ _ c.in-Some.ensures.steps c.loop-neighbour.invariant.0 c.in_err-write_neighbour.ensures.bytes)

pub loop-neighbour-preserved : goal.loop-neighbour-preserved
loop-neighbour-preserved g c = (
  first_written (neighbour_line g.F.Family.family c.args.port) _ _ _ _ _ _ _ c.in-Some.ensures.steps c.loop-neighbour.invariant.0 c.in_ok-write_neighbour.ensures.bytes,
  c.in_ok-write_neighbour.ensures.count ∙ c.loop-neighbour.invariant.1,
)

pub returns-clause-bytes : goal.returns-clause-bytes
returns-clause-bytes g c = none_left (neighbour_line g.F.Family.family c.args.port) _ _ _ _ c.in-None.ensures.steps.0 c.loop-neighbour.invariant.0
