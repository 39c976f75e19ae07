use Rattle.std.proofs.Common.{refl, ◌∙◌, arith}
use Rattle.pim_lines.proofs.Written.{left_all, item_written, item_stopped, items_written, stopped}
use Rattle.pim_lines.proofs.pieces.write_pieces.Goals as goal

pub loop-piece-init : goal.loop-piece-init
loop-piece-init g c = (left_all _ _, refl)

pub returns-in_err-write_all-clause-bytes : goal.returns-in_err-write_all-clause-bytes
returns-in_err-write_all-clause-bytes g c =
    stopped _ _ c.from_residual.result _ c.from_residual.ensures.0
    (item_stopped (λ piece. piece.now) c.args.pieces.now c.loop-piece.piece-index _ _ _ _ _ c.loop-piece-test.true c.loop-piece.invariant.0 c.in_err-write_all.ensures.bytes)

pub loop-piece-preserved : goal.loop-piece-preserved
loop-piece-preserved g c = (
  item_written (λ piece. piece.now) c.args.pieces.now c.loop-piece.piece-index _ _ _ _ _ c.loop-piece-test.true c.loop-piece.invariant.0 c.in_ok-write_all.ensures.bytes,
  c.in_ok-write_all.ensures.count ∙ c.loop-piece.invariant.1,
)

pub returns-clause-bytes : goal.returns-clause-bytes
returns-clause-bytes g c =
    items_written (λ piece. piece.now) c.args.pieces.now c.loop-piece.piece-index _ _ _ (omega (arith, c.loop-piece-test.false)) c.loop-piece.invariant.0
