use Rattle.std.proofs.Common.{◌≡◌, ◌*◌, ◌/◌, ◌≤◌, length, arith, sym, ◌∙◌}
use Rattle.std.proofs.lemmas.Bool.{eqb-true}
use Rattle.pim_frame.proofs.Sums.{wide_total_whole, wide_total_rest}
use Rattle.pim_frame.proofs.checksum.wide_sum.Goals as goal

pub returns-then-is_empty-clause-sum : goal.returns-then-is_empty-clause-sum
returns-then-is_empty-clause-sum c =
    let none : length c.as_chunks.result.1.now ≡ 0 = eqb-true _ _ (sym c.is_empty.ensures ∙ c.if-is_empty.true) in
    let all : length c.args.bytes.now ≤ length c.args.bytes.now / 4 * 4 = omega (arith, none, c.as_chunks.ensures.back_len) in
    rw (c.words_total-sum.ensures.total, c.as_chunks.ensures.front) (wide_total_whole (length c.args.bytes.now / 4) c.args.bytes.now (omega arith) all)

pub returns-clause-sum : goal.returns-clause-sum
returns-clause-sum c =
    rw (c.from.ensures, c.words_total-sum.ensures.total, c.as_chunks.ensures.front)
    (wide_total_rest (length c.args.bytes.now / 4) c.args.bytes.now c.wide_word_of.result (omega arith) (rw c.as_chunks.ensures.back at c.wide_word_of.ensures))
