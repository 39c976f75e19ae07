use Rattle.pim_down.proofs.Words.{◌≡◌, None, length, get_or, map, take, sym, ap, subst, ◌∙◌, option_copied, get, items, before, with_run, AlarmList, alarm_of, AreKnown}
use Rattle.pim_down.proofs.AlarmRun.{none_there}
use Rattle.pim_down.proofs.RunPut.{front_put, first_of}
use Rattle.pim_down.proofs.records.alarms.Alarms.put_front.Goals as goal

pub returns-in_default-clause-alarms : goal.returns-in_default-clause-alarms
returns-in_default-clause-alarms g c run timers long known kept =
    let slab = c.args.slab.now in
    let numbers = c.args.numbers.now in
    let first = c.split_at.result.0.now in
    let n = get_or first 0 0 in
    let none : get slab n ≡ None = sym c.get.ensures ∙ ap option_copied c.in_default.is in
    absurd (none_there g.O.KeyOrder.bytes_of slab c.args.to numbers run timers 0 n c.requires.some long (first_of numbers first c.requires.some c.split_at.ensures.front) none known)

pub returns-clause-alarms : goal.returns-clause-alarms
returns-clause-alarms g c run timers long known kept =
    let bytes_of = g.O.KeyOrder.bytes_of in
    let slab = c.args.slab.now in
    let to = c.args.to in
    let numbers = c.args.numbers.now in
    let first = c.split_at.result.0.now in
    let list = c.self.inside.list in
    let place = c.slot_of-place.result in
    let count = c.put_run_after-count.result.0 in
    let new = c.put_run_after-count.new.list in
    front_put bytes_of slab to count (get_or first 0 0) (before list place) c.in-Some.held.now numbers run timers (items list) (items c.insert_within-stands.new.self) (items new)
    c.requires.some (first_of numbers first c.requires.some c.split_at.ensures.front) (sym (c.in-Some.ensures {u = tt})) long known (ap (λ (l : AlarmList). l.alarms) c.self.view_is ∙ kept)
    (c.place_is_within.ensures list place c.slot_of-place.ensures.place) c.insert_within-stands.ensures.items c.slot_of-place.ensures.slot
    (λ m others all few is so there.
    subst (λ ms. (front : length others ≡ length ms) → AreKnown bytes_of slab (with_run bytes_of to ms others all) → items new ≡ map alarm_of (with_run bytes_of to (take count ms) (take count others) all)) c.split_at.ensures.back
    (λ f k. c.put_run_after-count.ensures.alarms m others all f k so (λ d. ap (λ j. get_or all j d) c.insert_within-stands.ensures.before ∙ there d)) few is)
