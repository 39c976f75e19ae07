use Rattle.pim_jp.proofs.Words.{◌≡◌, ◌≤◌, length, err_from_is_err_and, IfOk-at_ok, group_length, group, kinds_at}
use Rattle.pim_jp.proofs.SetLoop.{set_pass, set_stop_lists}
use Rattle.pim_jp.proofs.reading.check_set.Goals as goal

pub returns-in_err-after-clause-stops : goal.returns-in_err-after-clause-stops
returns-in_err-after-clause-stops g c =
    let p = err_from_is_err_and c.from_residual-in_err-after.result c.from_residual-in_err-after.ensures.1 in
    let none = c.in_ok-with_place.ensures.reported (kinds_at g.F.Family.family group c.args.bytes.now) c.check_group.ensures.reported in
    let whole = IfOk-at_ok (λ _. group_length g.F.Family.family ≤ length c.args.bytes.now) c.in_ok-with_place.ensures.value c.check_group.ensures.whole in
    let size : c.group_length-size.result ≡ group_length g.F.Family.family = c.group_length-size.ensures in
    rw (p.1, p.2) (set_stop_lists _ _ _ _ whole none (rw (c.split_at.ensures.back, size) at c.in_err-after.ensures.stops))

pub returns-clause-passes : goal.returns-clause-passes
returns-clause-passes g c =
    let none = c.in_ok-with_place.ensures.reported (kinds_at g.F.Family.family group c.args.bytes.now) c.check_group.ensures.reported in
    let whole = IfOk-at_ok (λ _. group_length g.F.Family.family ≤ length c.args.bytes.now) c.in_ok-with_place.ensures.value c.check_group.ensures.whole in
    let size : c.group_length-size.result ≡ group_length g.F.Family.family = c.group_length-size.ensures in
    set_pass _ _ _ whole none (rw (c.split_at.ensures.back, size) at c.in_ok-after.ensures.passes)
