use Rattle.std.proofs.Common.{◌≡◌, ◌∙◌, ap, subst, ℕ, List, [], Some}
use Rattle.pim_faults.specs.Ending.{IsReported}
use Rattle.pim_commands.specs.Running.{DoesTask}
use Rattle.pim_main.proofs.running.run_on_devices.Goals as goal

pub returns-clause-ran : goal.returns-clause-ran
returns-clause-ran g c =
    let warnings = c.run_task-answer.new.errors in
    let none : c.new-warnings.result.inner.items ≡ [] = ap (λ v. v.items) c.new-warnings.ensures.inner ∙ c.new.ensures.items in
    let begun : (c.new-warnings.result.inner.items, c.new-warnings.result.failures) ≡ ([], 0) = cc in
    record {
      answer = c.run_task-answer.result;
      passed = c.pass_on-passed.result;
      ends = c.first_fault.ensures;
      written = g.W.Drain.contents c.run_task-answer.new.output;
      kept = c.pass_on-passed.ensures.contents;
      failed = g.W.Drain.failures c.run_task-answer.new.output;
      counted = c.run_task-answer.ensures.output;
      warnings = warnings.inner.items;
      refused = warnings.failures;
      fault = c.pass_on-passed.ensures.fault;
      whole = c.pass_on-passed.ensures.whole;
      warned = c.pass_on-passed.ensures.warned;
      does = subst (λ (z : List ℕ × ℕ). DoesTask g.F.Family.family g.F.Family.bytes_of g.O.Reader.Feed.remaining g.O.Reader.Feed.failures (g.O.Opener.known c.args.files.now)
          (g.O.Opener.known c.run_task-answer.new.opener) (g.R.Feed.remaining c.args.input.now) (λ text. IsReported text (Some z.0) (Some warnings.inner.items) z.1 warnings.failures)
          (g.W.Drain.contents c.args.output.now) (g.W.Drain.contents c.run_task-answer.new.output) c.run_task-answer.result c.args.task.now) begun c.run_task-answer.ensures.done;
    }
