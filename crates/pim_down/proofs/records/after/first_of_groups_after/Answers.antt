use Rattle.pim_down.proofs.Words.{drop, option_map, eqb, refl, eq-eqb, ne_eqb, at, is_before_groups, is_of_group_after}
use Rattle.pim_down.proofs.Searched.{parted, found_none, found_some, found_other, groups_fall, groups_apart, groups_near, group_first}
use Rattle.pim_down.proofs.Looking.{past_end, front_none, front_some}
use Rattle.pim_down.proofs.records.after.first_of_groups_after.Goals as goal

pub first_behind-place-requires : goal.first_behind-place-requires
first_behind-place-requires g c =
    let bytes_of = g.F.Family.bytes_of in
    let bound = option_map bytes_of c.args.bound in
    parted bytes_of (is_before_groups c.args.port bound) (groups_fall c.args.port bound) c.args.records.now.items c.requires

pub returns-then-not-is_item : goal.returns-then-not-is_item
returns-then-not-is_item g c =
    let bytes_of = g.F.Family.bytes_of in
    let bound = option_map bytes_of c.args.bound in
    let port = c.args.port in
    let list = c.args.records.now in
    let i = at list c.first_behind-place.result in
    let past = past_end list c.first_behind-place.result c.is_item.result c.is_item.ensures c.if-not-is_item.true c.first_behind-place.ensures.item in
    found_none bytes_of (is_before_groups port bound) (is_of_group_after port bound) (groups_apart port bound) (groups_near port bound) (λ held. eqb held.key.port port) (group_first port bound)
    list.items (drop i list.items) i c.requires c.first_behind-place.ensures.parts refl (front_none list.items i past)

pub returns-then-first-port : goal.returns-then-first-port
returns-then-first-port g c =
    let bytes_of = g.F.Family.bytes_of in
    let bound = option_map bytes_of c.args.bound in
    let port = c.args.port in
    let list = c.args.records.now in
    let i = at list c.first_behind-place.result in
    found_some bytes_of (is_before_groups port bound) (is_of_group_after port bound) (groups_apart port bound) (groups_near port bound) (λ held. eqb held.key.port port) (group_first port bound)
    list.items (drop i list.items) i c.requires c.first_behind-place.ensures.parts refl c.get-first.result.now (front_some list.items i c.get-first.result.now (c.is_item.ensures.0 c.if-not-is_item.false).1 c.get-first.ensures) (eq-eqb _ _ c.if-first-port.true)

pub returns-else-first-port : goal.returns-else-first-port
returns-else-first-port g c =
    let bytes_of = g.F.Family.bytes_of in
    let bound = option_map bytes_of c.args.bound in
    let port = c.args.port in
    let list = c.args.records.now in
    let i = at list c.first_behind-place.result in
    found_other bytes_of (is_before_groups port bound) (is_of_group_after port bound) (groups_apart port bound) (groups_near port bound) (λ held. eqb held.key.port port) (group_first port bound)
    list.items (drop i list.items) i c.requires c.first_behind-place.ensures.parts refl c.get-first.result.now (front_some list.items i c.get-first.result.now (c.is_item.ensures.0 c.if-not-is_item.false).1 c.get-first.ensures) (ne_eqb _ _ c.if-first-port.false)
