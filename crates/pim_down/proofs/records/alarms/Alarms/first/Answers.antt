use Rattle.pim_down.proofs.Words.{◌≡◌, ◌<◌, Some, length, get_or, sym, ap, subst, ◌∙◌, arith, slice_get, slice_get-get_or, items, AlarmList}
use Rattle.pim_down.proofs.records.alarms.Alarms.first.Goals as goal

pub returns-then-is_item : goal.returns-then-is_item
returns-then-is_item g c =
    let list = c.self.inside.list in
    let first = c.get.result.now in
    let here = c.get.ensures ∙ ap (λ i. get_or (items list) i first) c.first-place.ensures.before in
    let within : 0 < length (items list) = omega (arith, (c.item_has_a_place.ensures list c.first-place.result (c.is_item.ensures.0 c.if-is_item.true)).1, c.first-place.ensures.before) in
    subst (λ (l : AlarmList). Some first ≡ slice_get l.alarms 0) c.self.view_is (ap Some here ∙ sym (slice_get-get_or (items list) 0 first within))
