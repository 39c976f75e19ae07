use Rattle.pim_down.proofs.Words.{◌+◌, length, refl, sym, ap, ◌∙◌, arith, length-set, at, is_before_rpts}
use Rattle.pim_down.proofs.Looking.{past_end}
use Rattle.pim_down.proofs.Rpts.{rpts_fall, behind_parts, joins_begin, joins_more, joins_end, joins_past}
use Rattle.pim_down.proofs.Searched.{parted}
use Rattle.pim_down.proofs.hearing.hear.join_rpts.Goals as goal

pub first_behind-place-requires : goal.first_behind-place-requires
first_behind-place-requires g c =
    let bytes_of = g.F.Family.bytes_of in
    let group = bytes_of c.args.group in
    parted bytes_of (is_before_rpts c.args.port group) (rpts_fall c.args.port group) c.args.records.now.items c.requires

pub loop-group-init : goal.loop-group-init
loop-group-init g c =
    let bytes_of = g.F.Family.bytes_of in
    let group = bytes_of c.args.group in
    let list = c.args.records.now in
    let i = at list c.first_behind-place.result in
    record {
      changed = joins_begin bytes_of c.args.port group list.items i c.first_behind-place.ensures.within c.first_behind-place.ensures.parts;
      behind = behind_parts bytes_of c.args.port group list.items i c.first_behind-place.ensures.parts;
      next = c.first_behind-place.ensures.item;
      long = refl;
      capacity = refl;
    }

pub loop-group-smaller : goal.loop-group-smaller
loop-group-smaller g c =
    let same = ap length (c.set_machine.ensures.items c.get-held.result.now) ∙ length-set c.loop-group.records.items (at c.loop-group.records c.loop-group.place) _ in
    omega (arith, (c.is_item.ensures.0 c.loop-group-test.true).1, same, c.next-place.ensures.at, c.set_machine.ensures.at c.loop-group.place)

pub loop-group-preserved : goal.loop-group-preserved
loop-group-preserved g c =
    let bytes_of = g.F.Family.bytes_of in
    let list = c.loop-group.records in
    let i = at list c.loop-group.place in
    let same = ap length (c.set_machine.ensures.items c.get-held.result.now) ∙ length-set list.items i _ in
    let next = c.next-place.ensures.at ∙ ap (λ n. n + 1) (c.set_machine.ensures.at c.loop-group.place) in
    record {
      changed = joins_more bytes_of c.args.port (bytes_of c.args.group) c.args.records.now.items list.items c.set_machine.new.self.items i (at c.set_machine.new.self c.next-place.result) c.get-held.result.now c.on_star_join-machine.result c.loop-group.invariant.long (c.is_item.ensures.0 c.loop-group-test.true).1 c.get-held.ensures (sym c.is_rpt_of.ensures ∙ c.if-not-is_rpt_of.false) c.on_star_join-machine.ensures (c.set_machine.ensures.items c.get-held.result.now) next c.loop-group.invariant.changed;
      behind = λ k d le w. c.loop-group.invariant.behind k d (omega (arith, le, next)) w;
      next = λ lt. c.next-place.ensures.item (omega (arith, lt, c.next-place.ensures.at));
      long = same ∙ c.loop-group.invariant.long;
      capacity = c.set_machine.ensures.capacity ∙ c.loop-group.invariant.capacity;
    }

pub returns-then-not-is_rpt_of-clause-records : goal.returns-then-not-is_rpt_of-clause-records
returns-then-not-is_rpt_of-clause-records g c =
    let bytes_of = g.F.Family.bytes_of in
    let list = c.loop-group.records in
    joins_end bytes_of c.args.port (bytes_of c.args.group) c.args.records.now.items list.items (at list c.loop-group.place) c.get-held.result.now c.requires c.loop-group.invariant.long (c.is_item.ensures.0 c.loop-group-test.true).1 c.get-held.ensures c.loop-group.invariant.behind (sym c.is_rpt_of.ensures ∙ c.if-not-is_rpt_of.true) c.loop-group.invariant.changed

pub returns-clause-records : goal.returns-clause-records
returns-clause-records g c =
    let bytes_of = g.F.Family.bytes_of in
    let list = c.loop-group.records in
    let past = past_end list c.loop-group.place c.is_item.result c.is_item.ensures c.loop-group-test.false c.loop-group.invariant.next in
    joins_past bytes_of c.args.port (bytes_of c.args.group) c.args.records.now.items list.items (at list c.loop-group.place) (omega (arith, past, c.loop-group.invariant.long)) c.loop-group.invariant.changed
