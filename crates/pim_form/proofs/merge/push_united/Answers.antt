use Rattle.pim_form.proofs.Words.{◌∙◌, sym, refl, itself, first_of, on_ok_weaker}
use Rattle.pim_form.proofs.MergeSteps.{step_less, step_equal, step_greater, ended_first, ended_second}
use Rattle.pim_form.proofs.merge.push_united.Goals as goal
use Rattle.pim_form.proofs.merge.push_united.Goals.{in-Some+in_default-split_first, in_default}

pub loop-a-preserved-in-Less : goal.loop-a-preserved-in-Less
loop-a-preserved-in-Less g c =
    step_less itself first_of g.F.Family.bytes_of c.loop-a.row.items c.push.new.self.items _ _ _ _ c.in-Some.a.now c.in-Some-split_first.b.now _
    c.in-Some.ensures.cases.0 c.in-Some-split_first.ensures.cases.0 (sym (g.met.F.Family.order_of_bytes c.in-Some.a.now c.in-Some-split_first.b.now) ∙ sym c.in-Less.ensures) c.in_ok-push-in-Less.ensures.items c.loop-a.invariant

pub loop-a-preserved-in-Equal : goal.loop-a-preserved-in-Equal
loop-a-preserved-in-Equal g c =
    step_equal itself first_of g.F.Family.bytes_of c.loop-a.row.items c.push-in-Equal.new.self.items _ _ _ _ c.in-Some.a.now c.in-Some-split_first.b.now _
    c.in-Some.ensures.cases.0 c.in-Some-split_first.ensures.cases.0 (sym (g.met.F.Family.order_of_bytes c.in-Some.a.now c.in-Some-split_first.b.now) ∙ sym c.in-Equal.ensures) refl c.in_ok-push-in-Equal.ensures.items c.loop-a.invariant

pub loop-a-preserved : goal.loop-a-preserved
loop-a-preserved g c =
    step_greater itself first_of g.F.Family.bytes_of c.loop-a.row.items c.push-in-Greater.new.self.items _ _ _ _ c.in-Some.a.now c.in-Some-split_first.b.now _
    c.in-Some.ensures.cases.0 c.in-Some-split_first.ensures.cases.0 (sym (g.met.F.Family.order_of_bytes c.in-Some.a.now c.in-Some-split_first.b.now) ∙ sym c.in-Greater.ensures) c.in_ok-push-in-Greater.ensures.items c.loop-a.invariant

pub returns : goal.returns
returns g c =
    let bytes_of = g.F.Family.bytes_of in
    on_ok_weaker c.append-2.result
    (elim c.match-split_first.branch [
      | in-Some+in_default-split_first w ↦ ended_second itself first_of bytes_of c.loop-a.row.items c.append.new.row.items c.append-2.new.row.items c.loop-a.left.now c.loop-a.right.now _ w.in_default-split_first.ensures.cases c.in_ok-append.ensures c.loop-a.invariant
      | in_default w ↦ ended_first itself first_of bytes_of c.loop-a.row.items c.append.new.row.items c.append-2.new.row.items c.loop-a.left.now c.loop-a.right.now _ w.in_default.ensures.cases c.in_ok-append.ensures c.loop-a.invariant
    ]) c.append-2.ensures
