use Rattle.std.proofs.Common.{◌∙◌, sym}
use Rattle.pim_form.proofs.MergeSteps.{met_second, meet_less, meet_equal, meet_greater}
use Rattle.pim_form.proofs.merge.push_common.Goals as goal

pub loop-a-preserved-in-Less : goal.loop-a-preserved-in-Less
loop-a-preserved-in-Less g c =
    meet_less g.F.Family.bytes_of c.loop-a.row.items c.loop-a.row.items _ _ _ _ c.in-Some.a.now c.in-Some-split_first.b.now _
    c.in-Some.ensures.cases.0 c.in-Some-split_first.ensures.cases.0 c.loop-a.invariant (sym (g.met.F.Family.order_of_bytes c.in-Some.a.now c.in-Some-split_first.b.now) ∙ sym c.in-Less.ensures)

pub loop-a-preserved-in-Equal : goal.loop-a-preserved-in-Equal
loop-a-preserved-in-Equal g c =
    meet_equal g.F.Family.bytes_of c.loop-a.row.items c.push.new.self.items _ _ _ _ c.in-Some.a.now c.in-Some-split_first.b.now _
    c.in-Some.ensures.cases.0 c.in-Some-split_first.ensures.cases.0 c.loop-a.invariant (sym (g.met.F.Family.order_of_bytes c.in-Some.a.now c.in-Some-split_first.b.now) ∙ sym c.in-Equal.ensures) c.in_ok-push-in-Equal.ensures.items

pub loop-a-preserved : goal.loop-a-preserved
loop-a-preserved g c =
    meet_greater g.F.Family.bytes_of c.loop-a.row.items c.loop-a.row.items _ _ _ _ c.in-Some.a.now c.in-Some-split_first.b.now _
    c.in-Some.ensures.cases.0 c.in-Some-split_first.ensures.cases.0 c.loop-a.invariant (sym (g.met.F.Family.order_of_bytes c.in-Some.a.now c.in-Some-split_first.b.now) ∙ sym c.in-Greater.ensures)

pub returns-in_default-split_first : goal.returns-in_default-split_first
returns-in_default-split_first g c = met_second g.F.Family.bytes_of c.loop-a.row.items c.loop-a.left.now c.loop-a.right.now _ c.in_default-split_first.ensures.cases c.loop-a.invariant
