use Rattle.pim_down.proofs.Words.{◌+◌, length, take, ap, sym, arith, ◌∙◌, length-take-le, items, before, AlarmList}
use Rattle.pim_down.proofs.AlarmRun.{taken_out, row_within, read_run, cut_long}
use Rattle.pim_down.proofs.records.alarms.Alarms.take_run.Goals as goal

pub returns-clause-alarms : goal.returns-clause-alarms
returns-clause-alarms g c run timers long known kept =
    let list = c.self.inside.list in
    let place = c.in-Ok.place in
    let n = c.count_run-count.result in
    let numbers = c.args.numbers.now in
    let count = c.count_run-count.ensures in
    let is_place = c.item_has_a_place.ensures list place (c.in-Ok.ensures {u = tt}).0 in
    let row = c.row_from.ensures.row is_place.0 in
    let within = row_within c.row_from.result.now (items list) (before list place) n row count.row (omega (arith, is_place.1)) in
    taken_out g.O.KeyOrder.bytes_of c.args.slab.now c.args.from (take n numbers) run timers (items list) (items c.remove_in_block-self-inside.new.self) (before list place) n
    (sym (length-take-le n numbers count.numbers)) long known (ap (λ (l : AlarmList). l.alarms) c.self.view_is ∙ kept) within
    (read_run c.row_from.result.now (items list) (before list place) n c.args.from numbers row count.row count.same)
    c.remove_in_block-self-inside.ensures.items

pub returns-clause-fewer : goal.returns-clause-fewer
returns-clause-fewer g c =
    let list = c.self.inside.list in
    let place = c.in-Ok.place in
    let n = c.count_run-count.result in
    let is_place = c.item_has_a_place.ensures list place (c.in-Ok.ensures {u = tt}).0 in
    let within = row_within c.row_from.result.now (items list) (before list place) n (c.row_from.ensures.row is_place.0) c.count_run-count.ensures.row (omega (arith, is_place.1)) in
    ap (λ xs. length xs + n) c.remove_in_block-self-inside.ensures.items ∙ cut_long (items list) (before list place) n within ∙ ap (λ (l : AlarmList). length l.alarms) c.self.view_is
