use Rattle.pim_answers.proofs.Words.{◌∙◌, ℕ, refl, subst, AppendsFront, Appends, Step, step_seen, Runs, step_line}
use Rattle.pim_answers.proofs.Runs.{begin, steps, stepped, stopped, arrived, not_reached}
use Rattle.pim_answers.proofs.running.answer_run.Goals as goal

pub runs-init : goal.runs-init
runs-init g c = record {
  way = begin g.F.Family.family c.args.moment c.args.router.now (g.W.Drain.contents c.args.answers.now);
  failures = refl;
}

pub runs-preserved : goal.runs-preserved
runs-preserved g c =
    let family = g.F.Family.family in
    let step = step_seen g.F.Family.bytes_of c.run_to-step.result in
    record {
      way = stepped family c.args.moment c.args.router.now (g.W.Drain.contents c.args.answers.now) c.runs.router (g.W.Drain.contents c.runs.answers) c.runs.invariant.way
          (step_line family c.run_to-step.new.self.machines.moment step) c.run_to-step.new.self (g.W.Drain.contents c.write_step.new.answers)
          (steps family c.args.moment c.runs.router c.run_to-step.new.self step c.run_to-step.ensures.run (not_reached g.F.Family.bytes_of c.run_to-step.result (c.is_reached.ensures.early c.if-is_reached.false)))
          (subst (λ (moment : ℕ). Appends (g.W.Drain.contents c.runs.answers) (g.W.Drain.contents c.write_step.new.answers) (step_line family moment step)) c.now.ensures c.in_ok-write_step.ensures.bytes);
      failures = c.in_ok-write_step.ensures.count ∙ c.runs.invariant.failures;
    }

pub returns-in_err-write_step-clause-answered : goal.returns-in_err-write_step-clause-answered
returns-in_err-write_step-clause-answered g c =
    let family = g.F.Family.family in
    let step = step_seen g.F.Family.bytes_of c.run_to-step.result in
    stopped family c.args.moment c.args.router.now (g.W.Drain.contents c.args.answers.now) c.runs.router (g.W.Drain.contents c.runs.answers) c.runs.invariant.way
    (step_line family c.run_to-step.new.self.machines.moment step) c.run_to-step.new.self (g.W.Drain.contents c.write_step.new.answers) c.from_residual.result (λ _. c.run_to-step.new.self) c.every_list_has_a_course.ensures
    (steps family c.args.moment c.runs.router c.run_to-step.new.self step c.run_to-step.ensures.run (not_reached g.F.Family.bytes_of c.run_to-step.result (c.is_reached.ensures.early c.if-is_reached.false)))
    c.from_residual.ensures.0
    (subst (λ (moment : ℕ). AppendsFront (g.W.Drain.contents c.runs.answers) (g.W.Drain.contents c.write_step.new.answers) (step_line family moment step)) c.now.ensures c.in_err-write_step.ensures.bytes)

pub returns-then-is_reached-clause-answered : goal.returns-then-is_reached-clause-answered
returns-then-is_reached-clause-answered g c =
    arrived g.F.Family.family c.args.moment c.args.router.now (g.W.Drain.contents c.args.answers.now) c.runs.router (g.W.Drain.contents c.runs.answers) c.runs.invariant.way
    c.run_to-step.new.self (g.W.Drain.contents c.write_ok.new.answers) c.write_ok.result
    (subst (λ (step : Step _). Runs c.args.moment c.runs.router (step_seen g.F.Family.bytes_of step) c.run_to-step.new.self) (c.is_reached.ensures.end c.if-is_reached.true) c.run_to-step.ensures.run)
    c.write_ok.ensures.bytes
