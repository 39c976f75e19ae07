use Rattle.pim_report.proofs.Words.{◌∙◌, subst, List, ℕ, flat_map, message_line}
use Rattle.pim_report.proofs.MessageTexts.{split_at}
use Rattle.pim_report.proofs.Written.{IsLeft, left_less, left_stopped, stopped}
use Rattle.pim_report.proofs.message_text.write_each.Goals as goal

pub returns-in_err-write_message_at-clause-bytes : goal.returns-in_err-write_message_at-clause-bytes
returns-in_err-write_message_at-clause-bytes g c =
    stopped _ _ c.from_residual.result _ c.from_residual.ensures.0
    (left_stopped (g.W.Drain.contents c.args.writer.now) (g.W.Drain.contents c.loop-index.writer) _ _ _ _
    (subst (λ (l : List ℕ). IsLeft (g.W.Drain.contents c.args.writer.now) (g.W.Drain.contents c.loop-index.writer) l (flat_map message_line c.args.messages.now)) (split_at c.args.messages.now c.loop-index.index) c.loop-index.invariant.0)
    c.in_err-write_message_at.ensures.bytes)

pub loop-index-preserved : goal.loop-index-preserved
loop-index-preserved g c = (
  left_less (g.W.Drain.contents c.args.writer.now) (g.W.Drain.contents c.loop-index.writer) (g.W.Drain.contents c.write_message_at.new.writer) _ _ _
      (subst (λ (l : List ℕ). IsLeft (g.W.Drain.contents c.args.writer.now) (g.W.Drain.contents c.loop-index.writer) l (flat_map message_line c.args.messages.now)) (split_at c.args.messages.now c.loop-index.index) c.loop-index.invariant.0)
      c.in_ok-write_message_at.ensures.bytes,
  c.in_ok-write_message_at.ensures.count ∙ c.loop-index.invariant.1,
)
