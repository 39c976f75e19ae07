use Rattle.std.proofs.Common.{◌≡◌, [], ◌∙◌, arith, drop}
use Rattle.pim_frame.specs.Folded.{wide_total}
use Rattle.pim_frame.proofs.Sums.{wide_total_more, wide_total_all}
use Rattle.pim_frame.proofs.checksum.words_total.Goals as goal

pub loop-word-preserved : goal.loop-word-preserved
loop-word-preserved c =
    let step = wide_total_more c.args.words.now c.loop-word.word-index c.loop-word.sum c.wide_word.result [] (omega arith) c.wide_word.ensures in
    record {
      small = omega (arith, c.from-sum.ensures, c.wide_word.type_inv, c.loop-word.invariant.small);
      total = rw c.from-sum.ensures (step ∙ c.loop-word.invariant.total);
    }

pub returns-clause-total : goal.returns-clause-total
returns-clause-total c =
    let none : wide_total (drop c.loop-word.word-index c.args.words.now) ≡ 0 = wide_total_all c.args.words.now c.loop-word.word-index c.loop-word-test.false in
    omega (arith, none, c.loop-word.invariant.total)
