use Rattle.pim_report.proofs.Words.{List, ℕ, refl, subst, AppendsAll, machines_text, wants_text}
use Rattle.pim_report.proofs.States.{state_is}
use Rattle.pim_report.proofs.Written.{both, stopped_first}
use Rattle.pim_report.proofs.state_text.write_with.Goals as goal

pub returns-in_err-write_machines-clause-bytes : goal.returns-in_err-write_machines-clause-bytes
returns-in_err-write_machines-clause-bytes g c =
    let family = g.F.Family.family in
    let state = c.args.router.now in
    subst (λ (text : List ℕ). AppendsAll (g.W.Drain.contents c.args.writer.now) (g.W.Drain.contents c.write_machines.new.writer) c.from_residual.result text)
    (state_is family c.args.shows_via state c.args.form.now c.args.counts c.ports.result.now state.routes c.ports.ensures refl)
    (stopped_first _ _ c.from_residual.result (machines_text family c.ports.result.now) (wants_text family c.args.shows_via state.routes c.args.form.now c.args.counts)
    c.from_residual.ensures.0 c.in_err-write_machines.ensures.bytes)

pub returns-clause-bytes : goal.returns-clause-bytes
returns-clause-bytes g c =
    let family = g.F.Family.family in
    subst (λ (text : List ℕ). AppendsAll (g.W.Drain.contents c.args.writer.now) (g.W.Drain.contents c.write_wants.new.writer) c.write_wants.result text)
    (state_is family c.args.shows_via c.args.router.now c.args.form.now c.args.counts c.ports.result.now c.routes.result.now c.ports.ensures c.routes.ensures)
    (both _ _ _ c.write_wants.result (machines_text family c.ports.result.now) (wants_text family c.args.shows_via c.routes.result.now c.args.form.now c.args.counts)
    c.in_ok-write_machines.ensures.bytes c.write_wants.ensures.bytes)
