use Rattle.pim_down.proofs.Words.{true, false, length, sym, ap, ◌∙◌, arith, length-remove, at, is_before_rpts}
use Rattle.pim_down.proofs.Searched.{parted}
use Rattle.pim_down.proofs.Looking.{past_end}
use Rattle.pim_down.proofs.Rpts.{rpts_fall, before_parts, behind_parts, none_behind, none_past}
use Rattle.pim_down.proofs.Ending.{over_by, ends_none, ends_gone, ends_past, ends_all}
use Rattle.pim_down.proofs.hearing.end.end_group.Goals as goal

pub first_behind-place-requires : goal.first_behind-place-requires
first_behind-place-requires g c =
    let bytes_of = g.F.Family.bytes_of in
    let group = bytes_of c.args.group in
    parted bytes_of (is_before_rpts c.args.port group) (rpts_fall c.args.port group) c.args.records.now.items c.requires

pub loop-group-init : goal.loop-group-init
loop-group-init g c =
    let bytes_of = g.F.Family.bytes_of in
    let group = bytes_of c.args.group in
    let list = c.args.records.now in
    let i = at list c.first_behind-place.result in
    let parts = c.first_behind-place.ensures.parts in
    record {
      ends = ends_none bytes_of c.args.port group list.items i c.requires (before_parts bytes_of c.args.port group list.items i parts) (behind_parts bytes_of c.args.port group list.items i parts);
      next = c.first_behind-place.ensures.item;
    }

pub returns-then-not-is_rpt_of : goal.returns-then-not-is_rpt_of
returns-then-not-is_rpt_of g c =
    let bytes_of = g.F.Family.bytes_of in
    let group = bytes_of c.args.group in
    let list = c.loop-group.records in
    let i = at list c.loop-group.place in
    let ends = c.loop-group.invariant.ends in
    ends_all bytes_of c.args.port group c.args.records.now.items list.items i (none_behind bytes_of c.args.port group list.items ends.ascending i c.get-held.result.now (c.is_item.ensures.0 c.loop-group-test.true).1 c.get-held.ensures ends.behind (sym c.is_rpt_of.ensures ∙ c.if-not-is_rpt_of.true)) ends

pub loop-group-smaller-then-is_temporary : goal.loop-group-smaller-then-is_temporary
loop-group-smaller-then-is_temporary g c =
    let list = c.loop-group.records in
    let here = c.is_item.ensures.0 c.loop-group-test.true in
    omega (arith, here.1, ap length c.remove-place.ensures.items, length-remove list.items (at list c.loop-group.place) here.1, c.remove-place.ensures.at)

pub loop-group-preserved-then-is_temporary : goal.loop-group-preserved-then-is_temporary
loop-group-preserved-then-is_temporary g c =
    let bytes_of = g.F.Family.bytes_of in
    let group = bytes_of c.args.group in
    let list = c.loop-group.records in
    let gone = c.remove-place in
    let over = over_by bytes_of c.args.port group c.get-held.result.now true (sym c.is_rpt_of.ensures ∙ c.if-not-is_rpt_of.false) (sym c.is_temporary.ensures ∙ c.if-is_temporary.true) in
    record {
      ends = ends_gone bytes_of c.args.port group c.args.records.now.items list.items gone.new.self.items (at list c.loop-group.place) (at gone.new.self gone.result) c.get-held.result.now (c.is_item.ensures.0 c.loop-group-test.true).1 c.get-held.ensures over gone.ensures.items gone.ensures.at c.loop-group.invariant.ends;
      next = gone.ensures.item;
    }

pub loop-group-preserved : goal.loop-group-preserved
loop-group-preserved g c =
    let bytes_of = g.F.Family.bytes_of in
    let group = bytes_of c.args.group in
    let list = c.loop-group.records in
    let next = c.next-place in
    let stays = over_by bytes_of c.args.port group c.get-held.result.now false (sym c.is_rpt_of.ensures ∙ c.if-not-is_rpt_of.false) (sym c.is_temporary.ensures ∙ c.if-is_temporary.false) in
    record {
      ends = ends_past bytes_of c.args.port group c.args.records.now.items list.items (at list c.loop-group.place) (at list next.result) c.get-held.result.now c.get-held.ensures stays next.ensures.at c.loop-group.invariant.ends;
      next = λ lt. next.ensures.item (omega (arith, lt, next.ensures.at));
    }

pub returns : goal.returns
returns g c =
    let bytes_of = g.F.Family.bytes_of in
    let group = bytes_of c.args.group in
    let list = c.loop-group.records in
    let i = at list c.loop-group.place in
    let past = past_end list c.loop-group.place c.is_item.result c.is_item.ensures c.loop-group-test.false c.loop-group.invariant.next in
    ends_all bytes_of c.args.port group c.args.records.now.items list.items i (none_past bytes_of c.args.port group list.items i past) c.loop-group.invariant.ends
