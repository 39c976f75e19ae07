use Rattle.std.proofs.Common.{◌+◌, ap, arith, rules}
use Rattle.pim_jp.proofs.Marks.{copied_more, copied_all}
use Rattle.pim_jp.proofs.clashes.marked.copy_marked.Goals as goal

pub loop-index-preserved : goal.loop-index-preserved
loop-index-preserved g c = record {
  bound = search rules;
  room = search rules;
  copied = λ this.
      copied_more g.F.Family.value_of c.args.numbers.now c.loop-index.copies c.args.marks.now c.loop-index.index c.loop-index.done (c.loop-index.done + c.from-done.result) c.index-numbers-index.result c.is_set-stays.result _ this
      (omega arith) c.requires.marks (omega (arith, c.requires.copies, c.loop-index.invariant.bound, c.loop-index.invariant.room)) c.index-numbers-index.is c.is_set-stays.ensures (ap (λ n. c.loop-index.done + n) c.from-done.ensures)
      (c.loop-index.invariant.copied this);
}

pub returns-clause-copied : goal.returns-clause-copied
returns-clause-copied g c = λ this.
    copied_all g.F.Family.value_of c.args.numbers.now c.args.marks.now _ _ _ this (omega arith) (c.loop-index.invariant.copied this)
