use Rattle.pim_change.proofs.Words.{◌∙◌, sym, nat_cmp, slice_cmp}
use Rattle.pim_change.proofs.Addresses.{equal_is}
use Rattle.pim_change.proofs.Units.{changing_less, changing_equal, changing_greater, changed_gone, changed_came}
use Rattle.pim_change.proofs.changes.changed.Goals as goal
use Rattle.pim_change.proofs.changes.changed.Goals.{in-Some+in_default-split_first, in_default}

pub loop-old-preserved-in-Less : goal.loop-old-preserved-in-Less
loop-old-preserved-in-Less g c =
    changing_less g.F.Family.bytes_of c.loop-old.units.items c.push_old.new.units.items c.loop-old.left
    c.in-Some.left_behind c.loop-old.right c.in-Some-split_first.right_behind c.in-Some.old
    c.in-Some-split_first.new _
    c.in-Some.ensures c.in-Some-split_first.ensures c.loop-old.invariant
    ((λ i. slice_cmp nat_cmp (sym c.group.ensures i) (sym c.group-in-Some.ensures i)) ∙ sym
    (g.met.F.Family.order_of_bytes c.group.result c.group-in-Some.result)
    ∙ sym c.in-Less.ensures) c.in_ok-push_old-in-Less.ensures

pub push_both-requires : goal.push_both-requires
push_both-requires g c =
    equal_is c.in-Some.old.group c.in-Some-split_first.new.group
    ((λ i. slice_cmp nat_cmp (sym c.group.ensures i) (sym c.group-in-Some.ensures i)) ∙ sym
    (g.met.F.Family.order_of_bytes c.group.result c.group-in-Some.result) ∙ sym c.in-Equal.ensures)

pub loop-old-preserved-in-Equal : goal.loop-old-preserved-in-Equal
loop-old-preserved-in-Equal g c =
    changing_equal g.F.Family.bytes_of c.loop-old.units.items c.push_both.new.units.items c.loop-old.left
    c.in-Some.left_behind c.loop-old.right c.in-Some-split_first.right_behind c.in-Some.old
    c.in-Some-split_first.new _
    c.in-Some.ensures c.in-Some-split_first.ensures c.loop-old.invariant
    ((λ i. slice_cmp nat_cmp (sym c.group.ensures i) (sym c.group-in-Some.ensures i)) ∙ sym
    (g.met.F.Family.order_of_bytes c.group.result c.group-in-Some.result)
    ∙ sym c.in-Equal.ensures) c.in_ok-push_both-in-Equal.ensures

pub loop-old-preserved : goal.loop-old-preserved
loop-old-preserved g c =
    changing_greater g.F.Family.bytes_of c.loop-old.units.items c.push_new.new.units.items c.loop-old.left
    c.in-Some.left_behind c.loop-old.right c.in-Some-split_first.right_behind c.in-Some.old
    c.in-Some-split_first.new _
    c.in-Some.ensures c.in-Some-split_first.ensures c.loop-old.invariant
    ((λ i. slice_cmp nat_cmp (sym c.group.ensures i) (sym c.group-in-Some.ensures i)) ∙ sym
    (g.met.F.Family.order_of_bytes c.group.result c.group-in-Some.result)
    ∙ sym c.in-Greater.ensures) c.in_ok-push_new-in-Greater.ensures

pub returns : goal.returns
returns g c =
    let bytes_of = g.F.Family.bytes_of in
    elim c.match-split_first.branch [
      | in-Some+in_default-split_first w ↦ changed_gone bytes_of c.loop-old.units.items c.push_gone.new.units.items
          c.push_came.new.units.items c.loop-old.left c.loop-old.right _ w.in_default-split_first.ensures
          c.in_ok-push_gone.ensures c.in_ok-push_came.ensures c.loop-old.invariant
      | in_default w ↦ changed_came bytes_of c.loop-old.units.items c.push_gone.new.units.items
          c.push_came.new.units.items c.loop-old.left c.loop-old.right _ w.in_default.ensures
          c.in_ok-push_gone.ensures c.in_ok-push_came.ensures c.loop-old.invariant
    ]
