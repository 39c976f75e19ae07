use Rattle.pim_answers.proofs.Words.{List, ℕ, refl, sym, subst, ◌∙◌, flat_map, record_line}
use Rattle.pim_down.specs.declared.machines.machine.Record.{Record}
use Rattle.pim_answers.proofs.Written.{IsLeft, left_all, first_written, first_stopped, none_left, stopped}
use Rattle.pim_answers.proofs.reports.write_records.Goals as goal

pub loop-record-init : goal.loop-record-init
loop-record-init g c =
    let old = g.W.Drain.contents c.args.answers.now in
    let text = record_line g.F.Family.family in
    (subst (λ (left : List (Record (List ℕ))). IsLeft old old (flat_map text left) (flat_map text c.args.records)) (sym c.into_iter-record-iterator.ensures.into_iter_gives) (left_all old _), refl)

pub returns-in_err-write_record_line-clause-bytes : goal.returns-in_err-write_record_line-clause-bytes
returns-in_err-write_record_line-clause-bytes g c =
    stopped _ _ c.from_residual.result _ c.from_residual.ensures.0
    (first_stopped (record_line g.F.Family.family) _ _ _ _ _ _ _ c.in-Some.ensures.steps c.loop-record.invariant.0 c.in_err-write_record_line.ensures.bytes)

pub loop-record-preserved : goal.loop-record-preserved
loop-record-preserved g c = (
  first_written (record_line g.F.Family.family) _ _ _ _ _ _ _ c.in-Some.ensures.steps c.loop-record.invariant.0 c.in_ok-write_record_line.ensures.bytes,
  c.in_ok-write_record_line.ensures.count ∙ c.loop-record.invariant.1,
)

pub returns-clause-bytes : goal.returns-clause-bytes
returns-clause-bytes g c = none_left (record_line g.F.Family.family) _ _ _ _ c.in-None.ensures.steps.0 c.loop-record.invariant.0
