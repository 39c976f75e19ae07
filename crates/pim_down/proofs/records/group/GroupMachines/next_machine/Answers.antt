use Rattle.pim_down.proofs.Words.{Some, None, drop, refl, sym, ap, ◌∙◌, at, MachinesLeft, is_up_to, is_machine_after, is_of_group, next_machine, left_behind, key_seen, records_seen, shown}
use Rattle.pim_down.proofs.Looking.{past_end, front_none, front_some}
use Rattle.pim_down.proofs.Passing.{behind_it}
use Rattle.pim_down.proofs.Searched.{found_none, found_some, found_other, machines_apart, machines_near, machine_first, next_told}
use Rattle.pim_down.proofs.records.group.GroupMachines.next_machine.Goals as goal

pub returns-then-not-is_item-clause-reported : goal.returns-then-not-is_item-clause-reported
returns-then-not-is_item-clause-reported g c =
    let bytes_of = g.F.Family.bytes_of in
    let left = c.self.inside in
    let bound = key_seen bytes_of left.behind in
    let list = left.records.now in
    let stands = c.self.invariant.1 in
    let i = at list left.place in
    next_told bytes_of left.moment (records_seen bytes_of list.items) (shown bytes_of left.moment list.items) refl bound.port bound.group bound.what None
    (found_none bytes_of (is_up_to bound) (is_machine_after bound.port bound.group bound.what) (machines_apart bound) (machines_near bound) (λ held. is_of_group bound held.key) (machine_first bound)
    list.items (drop i list.items) i c.self.invariant.0 stands.parts refl (front_none list.items i (past_end list left.place c.is_item.result c.is_item.ensures c.if-not-is_item.true stands.is_item)))
    ∙ ap next_machine c.self.view_is

pub returns-then-not-is_item-clause-left : goal.returns-then-not-is_item-clause-left
returns-then-not-is_item-clause-left g c = ap (left_behind c.args.self.now) (returns-then-not-is_item-clause-reported g c)

pub returns-then-not-is_of_group-clause-reported : goal.returns-then-not-is_of_group-clause-reported
returns-then-not-is_of_group-clause-reported g c =
    let bytes_of = g.F.Family.bytes_of in
    let left = c.self.inside in
    let bound = key_seen bytes_of left.behind in
    let list = left.records.now in
    let i = at list left.place in
    next_told bytes_of left.moment (records_seen bytes_of list.items) (shown bytes_of left.moment list.items) refl bound.port bound.group bound.what None
    (found_other bytes_of (is_up_to bound) (is_machine_after bound.port bound.group bound.what) (machines_apart bound) (machines_near bound) (λ held. is_of_group bound held.key) (machine_first bound)
    list.items (drop i list.items) i c.self.invariant.0 c.self.invariant.1.parts refl c.get.result.now (front_some list.items i c.get.result.now (c.is_item.ensures.0 c.if-not-is_item.false).1 c.get.ensures) (sym c.is_of_group.ensures ∙ c.if-not-is_of_group.true))
    ∙ ap next_machine c.self.view_is

pub returns-then-not-is_of_group-clause-left : goal.returns-then-not-is_of_group-clause-left
returns-then-not-is_of_group-clause-left g c = ap (left_behind c.args.self.now) (returns-then-not-is_of_group-clause-reported g c)

pub invariant_of-self : goal.invariant_of-self
invariant_of-self g c =
    let left = c.self.inside in
    let list = left.records.now in
    let next = c.next-self-inside in (
      c.self.invariant.0,
      record {
        is_place = next.ensures.place;
        is_item = λ within. next.ensures.item (rw next.ensures.at at within);
        parts = rw next.ensures.at (behind_it g.F.Family.bytes_of list.items c.self.invariant.0 (at list left.place) c.get.result.now (c.is_item.ensures.0 c.if-not-is_item.false).1 c.get.ensures);
      },
    )

pub returns-clause-reported : goal.returns-clause-reported
returns-clause-reported g c =
    let bytes_of = g.F.Family.bytes_of in
    let left = c.self.inside in
    let bound = key_seen bytes_of left.behind in
    let list = left.records.now in
    let i = at list left.place in
    ap (λ r. Some r) (c.record_after.ensures bytes_of)
    ∙ next_told bytes_of left.moment (records_seen bytes_of list.items) (shown bytes_of left.moment list.items) refl bound.port bound.group bound.what (Some c.get.result.now)
    (found_some bytes_of (is_up_to bound) (is_machine_after bound.port bound.group bound.what) (machines_apart bound) (machines_near bound) (λ held. is_of_group bound held.key) (machine_first bound)
    list.items (drop i list.items) i c.self.invariant.0 c.self.invariant.1.parts refl c.get.result.now (front_some list.items i c.get.result.now (c.is_item.ensures.0 c.if-not-is_item.false).1 c.get.ensures) (sym c.is_of_group.ensures ∙ c.if-not-is_of_group.false))
    ∙ ap next_machine c.self.view_is

pub returns-clause-left : goal.returns-clause-left
returns-clause-left g c =
    let bytes_of = g.F.Family.bytes_of in
    ap (λ (s : MachinesLeft). record { records = s.records; behind = key_seen bytes_of c.get.result.now.key }) c.self.view_is
    ∙ ap (λ r. left_behind c.args.self.now (Some r)) (sym (c.record_after.ensures bytes_of))
    ∙ ap (left_behind c.args.self.now) (returns-clause-reported g c)
