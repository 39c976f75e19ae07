use Rattle.pim_text.proofs.Words.{source_length}
use Rattle.pim_text.proofs.Fronts.{entries_on, entries_done, place_on}
use Rattle.pim_text.proofs.partial_lines.push_list.Goals as goal

pub loop-preserved : goal.loop-preserved
loop-preserved g c =
    let behind = rw c.source_length.ensures at c.after-left.ensures in
    record {
      text = entries_on g.F.Family.family c.args.list.now c.args.count c.loop.counter c.loop.left.now c.after-left.result.now c.loop.text.items c.push_first.new.text.items _
          c.loop-test.true c.loop.invariant.text c.in_ok-push_first.ensures behind;
      place = place_on (source_length g.F.Family.family) c.loop.counter c.loop.left.now c.after-left.result.now c.args.bytes.now c.loop.invariant.place behind;
    }

pub returns-clause-text : goal.returns-clause-text
returns-clause-text g c = entries_done g.F.Family.family c.args.list.now c.args.count c.loop.counter c.loop.left.now c.loop.text.items _ c.loop-test.false c.loop.invariant.text
