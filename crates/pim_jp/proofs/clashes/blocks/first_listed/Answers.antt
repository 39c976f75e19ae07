use Rattle.pim_jp.proofs.Words.{◌∙◌, arith, is_listed}
use Rattle.pim_jp.proofs.SortedSources.{found_later, left_more, passed_more}
use Rattle.pim_jp.proofs.clashes.blocks.first_listed.Goals as goal

pub returns-then-passed-many-clause-before : goal.returns-then-passed-many-clause-before
returns-then-passed-many-clause-before g c =
    passed_more (is_listed g.F.Family.value_of c.args.listed.sources.now c.args.listed.rpts.now) g.F.Family.family c.loop-place.place c.loop-place.rest.now c.args.bytes.now c.loop-place.invariant.left
    c.first_listed_together-passed.result c.loop-place.invariant.before c.first_listed_together-passed.ensures.before

pub returns-then-passed-many-clause-at : goal.returns-then-passed-many-clause-at
returns-then-passed-many-clause-at g c = λ _.
    found_later (is_listed g.F.Family.value_of c.args.listed.sources.now c.args.listed.rpts.now) g.F.Family.family c.loop-place.place c.loop-place.rest.now c.args.bytes.now c.loop-place.invariant.left
    c.first_listed_together-passed.result (c.first_listed_together-passed.ensures.at c.if-passed-many.true)

pub loop-place-preserved : goal.loop-place-preserved
loop-place-preserved g c = record {
  bound = omega (arith, c.min-many.ensures, c.loop-place-test.true);
  room = c.first_listed_together-passed.ensures.room ∙ c.loop-place.invariant.room;
  left = left_more (is_listed g.F.Family.value_of c.args.listed.sources.now c.args.listed.rpts.now) g.F.Family.family c.loop-place.place c.loop-place.rest.now c.args.bytes.now c.loop-place.invariant.left c.min-many.result _
      (rw (← c.source_length.ensures, ← c.from.ensures) c.split_at.ensures.back);
  before = passed_more (is_listed g.F.Family.value_of c.args.listed.sources.now c.args.listed.rpts.now) g.F.Family.family c.loop-place.place c.loop-place.rest.now c.args.bytes.now c.loop-place.invariant.left
      c.min-many.result c.loop-place.invariant.before
      (λ place below. c.first_listed_together-passed.ensures.before place (omega (arith, below, c.if-passed-many.false, c.first_listed_together-passed.ensures.bound)));
}
