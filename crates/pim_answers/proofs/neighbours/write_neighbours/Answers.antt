use Rattle.pim_answers.proofs.Words.{◌∙◌, ◌<◌, arith, refl, subst, length, List, ℕ, flat_map, Appends, AppendsFront}
use Rattle.pim_answers.proofs.Words.{Neighbour, neighbour_line, neighbours_text}
use Rattle.pim_answers.proofs.NeighbourTexts.{port_here}
use Rattle.pim_answers.proofs.Written.{IsLeft, left_all, left_less, left_stopped, stopped}
use Rattle.pim_answers.proofs.neighbours.write_neighbours.Goals as goal

pub loop-port-init : goal.loop-port-init
loop-port-init g c = (left_all _ _, refl)

pub returns-in_err-write_port-clause-bytes : goal.returns-in_err-write_port-clause-bytes
returns-in_err-write_port-clause-bytes g c =
    let family = g.F.Family.family in
    let port = c.loop-port.port in
    let state = c.args.router.now in
    let old = g.W.Drain.contents c.args.writer.now in
    let now = g.W.Drain.contents c.loop-port.writer in
    let new = g.W.Drain.contents c.write_port.new.writer in
    let below : port < length state.tables = omega (arith, c.loop-port-test.true, c.port_count-port-end.ensures, c.is_router.ensures.ports, c.is_router.ensures.tables) in
    stopped old new c.from_residual.result (neighbours_text family state) c.from_residual.ensures.0
    (left_stopped old now new _ _ (neighbours_text family state)
    (subst (λ (l : List ℕ). IsLeft old now l (neighbours_text family state)) (port_here family state.tables port below) c.loop-port.invariant.0)
    (subst (λ (l : List (List ℕ × Neighbour)). AppendsFront now new (flat_map (neighbour_line family port) l)) c.neighbours.ensures c.in_err-write_port.ensures.bytes))

pub loop-port-preserved : goal.loop-port-preserved
loop-port-preserved g c =
    let family = g.F.Family.family in
    let port = c.loop-port.port in
    let state = c.args.router.now in
    let old = g.W.Drain.contents c.args.writer.now in
    let now = g.W.Drain.contents c.loop-port.writer in
    let new = g.W.Drain.contents c.write_port.new.writer in
    let below : port < length state.tables = omega (arith, c.loop-port-test.true, c.port_count-port-end.ensures, c.is_router.ensures.ports, c.is_router.ensures.tables) in (
      left_less old now new _ _ (neighbours_text family state)
          (subst (λ (l : List ℕ). IsLeft old now l (neighbours_text family state)) (port_here family state.tables port below) c.loop-port.invariant.0)
          (subst (λ (l : List (List ℕ × Neighbour)). Appends now new (flat_map (neighbour_line family port) l)) c.neighbours.ensures c.in_ok-write_port.ensures.bytes),
      c.in_ok-write_port.ensures.count ∙ c.loop-port.invariant.1,
    )
