use Rattle.pim_down.proofs.Words.{◌≡◌, Some, subst, position, at, record_after, deadline_seen, record_seen, records_seen}
use Rattle.pim_down.proofs.Sought.{element}
use Rattle.pim_down.proofs.FirstDue.{firing_pending, firing_expiry}
use Rattle.pim_down.proofs.FirstTimer.{due_of, fires_here, none_pending, never_missing}
use Rattle.pim_down.proofs.Late.{late_fired, late_removed}
use Rattle.pim_down.proofs.running.timers.fire_timer.Goals as goal

pub unreachable-requires : goal.unreachable-requires
unreachable-requires g c =
    let list = c.args.records.now in
    never_missing (records_seen g.F.Family.bytes_of list.items) (deadline_seen g.F.Family.bytes_of c.args.first) (at list c.in-Err.field-0) c.requires.ascending c.requires.first (c.in-Err.ensures {u = tt}).1

pub returns-in-PendingTimer-clause-fires : goal.returns-in-PendingTimer-clause-fires
returns-in-PendingTimer-clause-fires g c =
    let bytes_of = g.F.Family.bytes_of in
    let list = c.args.records.now in
    let first = deadline_seen bytes_of c.args.first in
    let found = c.in-Ok.ensures {u = tt} in
    let i = at list c.in-Ok.place in
    let d = (element list.items i found.0.1).0 in
    let here = fires_here bytes_of list c.requires.ascending first c.requires.first c.in-Ok.place found.0 found.1 in
    let stands = subst (λ t. position (λ held. due_of t (record_after first.ends_at (record_seen bytes_of held))) list.items ≡ Some i) c.in-PendingTimer.is here.1 in
    firing_pending bytes_of first.ends_at list.items c.fire_pending.new.records.items i _ d stands (c.fire_pending.ensures.reported d) (c.fire_pending.ensures.left d)

pub returns-in-PendingTimer-clause-late : goal.returns-in-PendingTimer-clause-late
returns-in-PendingTimer-clause-late g c m late =
    let list = c.args.records.now in
    let found = c.in-Ok.ensures {u = tt} in
    let i = at list c.in-Ok.place in
    let d = (element list.items i found.0.1).0 in
    late_fired g.F.Family.bytes_of m list.items c.fire_pending.new.records.items i d found.0.1 (c.fire_pending.ensures.left d) late

pub returns-in-ExpiryTimer-clause-fires : goal.returns-in-ExpiryTimer-clause-fires
returns-in-ExpiryTimer-clause-fires g c =
    let bytes_of = g.F.Family.bytes_of in
    let list = c.args.records.now in
    let first = deadline_seen bytes_of c.args.first in
    let found = c.in-Ok.ensures {u = tt} in
    let i = at list c.in-Ok.place in
    let d = (element list.items i found.0.1).0 in
    let here = fires_here bytes_of list c.requires.ascending first c.requires.first c.in-Ok.place found.0 found.1 in
    let stands = subst (λ t. position (λ held. due_of t (record_after first.ends_at (record_seen bytes_of held))) list.items ≡ Some i) c.in-ExpiryTimer.is here.1 in
    firing_expiry bytes_of first.ends_at list.items c.fire_expiry.new.records.items i _ d (none_pending bytes_of list c.requires.ascending first c.requires.first c.in-ExpiryTimer.is) stands (c.fire_expiry.ensures.reported d) c.fire_expiry.ensures.left

pub returns-in-ExpiryTimer-clause-late : goal.returns-in-ExpiryTimer-clause-late
returns-in-ExpiryTimer-clause-late g c m late =
    let list = c.args.records.now in
    late_removed g.F.Family.bytes_of m list.items c.fire_expiry.new.records.items (at list c.in-Ok.place) (c.in-Ok.ensures {u = tt}).0.1 c.fire_expiry.ensures.left late
