use Rattle.pim_jp.proofs.Words.{◌∙◌, take, drop, is_in, is_listed}
use Rattle.pim_jp.proofs.OtherWay.{passed_by}
use Rattle.pim_jp.proofs.clashes.swapped.from_listed.Goals as goal

pub loop-left-preserved : goal.loop-left-preserved
loop-left-preserved g c =
    let block = c.fill-ends.new.block in
    record {
      room = c.fill-ends.ensures.room ∙ c.loop-left.invariant.room;
      same = λ this is found. c.loop-left.invariant.same this is found
          ∙ passed_by (is_in c.loop-left.left this) (is_listed g.F.Family.value_of (take c.fill-ends.result.front block) (drop c.fill-ends.result.back block) this)
          (is_in c.fill-ends.new.entries this) (is_listed g.F.Family.value_of c.args.listed.sources.now c.args.listed.rpts.now this)
          (c.fill-ends.ensures.listed this is) (c.are_numbers_unlisted.ensures c.if-not-are_numbers_unlisted.false this) found;
    }
