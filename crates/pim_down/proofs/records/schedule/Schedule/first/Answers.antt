use Rattle.pim_down.proofs.Words.{ap, ◌∙◌, PendingTimer, ExpiryTimer, deadline_at}
use Rattle.pim_down.proofs.Soonest.{found_first}
use Rattle.pim_down.proofs.records.schedule.Schedule.first.Goals as goal

pub returns : goal.returns
returns g c prunes expiries known_p known_e kept_p kept_e =
    let slab = c.args.slab.now in
    let schedule = c.args.self.now in
    found_first g.O.KeyOrder.bytes_of slab prunes expiries schedule.pending.alarms schedule.expiry.alarms c.deadline_of-pending.result c.deadline_of-expiry.result c.sooner.result known_p known_e kept_p kept_e
    (c.deadline_of-pending.ensures ∙ ap (deadline_at slab PendingTimer) c.first.ensures)
    (c.deadline_of-expiry.ensures ∙ ap (deadline_at slab ExpiryTimer) c.first-2.ensures)
    c.sooner.ensures
