use Rattle.pim_change.proofs.Words.{◌∙◌, sym, on_ok_weaker}
use Rattle.pim_change.proofs.Units.{lack_less, lack_equal, lack_greater, lack_first, lack_second}
use Rattle.pim_change.proofs.action.push_lacking.Goals as goal
use Rattle.pim_change.proofs.action.push_lacking.Goals.{in-Some+in_default-split_first, in_default}

pub loop-a-preserved-in-Less : goal.loop-a-preserved-in-Less
loop-a-preserved-in-Less g c =
    lack_less g.F.Family.bytes_of c.args.kind c.args.group c.loop-a.units.items c.push.new.self.items _ _ _ _
    c.in-Some.a.now c.in-Some-split_first.b.now _
    c.in-Some.ensures.cases.0 c.in-Some-split_first.ensures.cases.0 c.loop-a.invariant
    (sym (g.met.F.Family.order_of_bytes c.in-Some.a.now c.in-Some-split_first.b.now) ∙ sym c.in-Less.ensures)
    c.in_ok-push-in-Less.ensures.items

pub loop-a-preserved-in-Equal : goal.loop-a-preserved-in-Equal
loop-a-preserved-in-Equal g c =
    lack_equal g.F.Family.bytes_of c.args.kind c.args.group c.loop-a.units.items c.loop-a.units.items _ _ _ _
    c.in-Some.a.now c.in-Some-split_first.b.now _
    c.in-Some.ensures.cases.0 c.in-Some-split_first.ensures.cases.0 c.loop-a.invariant
    (sym (g.met.F.Family.order_of_bytes c.in-Some.a.now c.in-Some-split_first.b.now) ∙ sym c.in-Equal.ensures)

pub loop-a-preserved : goal.loop-a-preserved
loop-a-preserved g c =
    lack_greater g.F.Family.bytes_of c.args.kind c.args.group c.loop-a.units.items c.loop-a.units.items _ _ _ _
    c.in-Some.a.now c.in-Some-split_first.b.now _
    c.in-Some.ensures.cases.0 c.in-Some-split_first.ensures.cases.0 c.loop-a.invariant
    (sym (g.met.F.Family.order_of_bytes c.in-Some.a.now c.in-Some-split_first.b.now) ∙ sym c.in-Greater.ensures)

pub returns : goal.returns
returns g c =
    let bytes_of = g.F.Family.bytes_of in
    on_ok_weaker c.push_each.result
    (elim c.match-split_first.branch [
      | in-Some+in_default-split_first w ↦ λ is. lack_second bytes_of c.args.kind c.args.group c.loop-a.units.items
          c.push_each.new.units.items c.loop-a.left.now c.loop-a.right.now _ is c.loop-a.invariant
          w.in_default-split_first.ensures.cases
      | in_default w ↦ λ is. lack_first bytes_of c.args.kind c.args.group c.loop-a.units.items
          c.push_each.new.units.items c.loop-a.left.now c.loop-a.right.now _ is c.loop-a.invariant
          w.in_default.ensures.cases
    ]) c.push_each.ensures
