use Rattle.pim_down.proofs.Words.{false≢true, refl, arith}
use Rattle.pim_down.proofs.Counts.{kept_same}
use Rattle.pim_down.proofs.Numbered.{timed_same, timed_more}
use Rattle.pim_down.proofs.records.store.RecordStore.reserve.Goals as goal

pub invariant_of-self : goal.invariant_of-self
invariant_of-self g c =
    let s = c.self.inside in (
      kept_same s.counts s.rpts s.list c.reserve.new.self c.self.invariant.0 c.reserve.ensures.items c.reserve.ensures.capacity,
      timed_same g.O.KeyOrder.bytes_of s.list s.schedule.pending s.schedule.expiry s.room c.self.invariant.1 c.reserve.new.self s.schedule.pending s.schedule.expiry c.reserve.ensures.items c.reserve.ensures.numbers refl refl (omega arith) (omega arith),
    )

pub invariant_of-self-then-additional-eq0 : goal.invariant_of-self-then-additional-eq0
invariant_of-self-then-additional-eq0 g c =
    let s = c.self.inside in (
      kept_same s.counts s.rpts s.list c.reserve.new.self c.self.invariant.0 c.reserve.ensures.items c.reserve.ensures.capacity,
      timed_same g.O.KeyOrder.bytes_of s.list s.schedule.pending s.schedule.expiry s.room c.self.invariant.1 c.reserve.new.self s.schedule.pending s.schedule.expiry c.reserve.ensures.items c.reserve.ensures.numbers refl refl (omega arith) (omega arith),
    )

pub invariant_of-self-in_default : goal.invariant_of-self-in_default
invariant_of-self-in_default g c =
    let s = c.self.inside in (
      kept_same s.counts s.rpts s.list c.reserve.new.self c.self.invariant.0 c.reserve.ensures.items c.reserve.ensures.capacity,
      timed_same g.O.KeyOrder.bytes_of s.list s.schedule.pending s.schedule.expiry s.room c.self.invariant.1 c.reserve.new.self s.schedule.pending s.schedule.expiry c.reserve.ensures.items c.reserve.ensures.numbers refl refl (omega arith) (omega arith),
    )

pub invariant_of-self-then-wanted-self : goal.invariant_of-self-then-wanted-self
invariant_of-self-then-wanted-self g c =
    let s = c.self.inside in (
      kept_same s.counts s.rpts s.list c.reserve.new.self c.self.invariant.0 c.reserve.ensures.items c.reserve.ensures.capacity,
      timed_same g.O.KeyOrder.bytes_of s.list s.schedule.pending s.schedule.expiry s.room c.self.invariant.1 c.reserve.new.self s.schedule.pending s.schedule.expiry c.reserve.ensures.items c.reserve.ensures.numbers refl refl (omega arith) (omega arith),
    )

pub invariant_of-self-in_err-reserve_for : goal.invariant_of-self-in_err-reserve_for
invariant_of-self-in_err-reserve_for g c =
    let s = c.self.inside in
    let more = c.reserve_for.ensures in
    let new = c.reserve_for.new.self in (
      kept_same s.counts s.rpts s.list c.reserve.new.self c.self.invariant.0 c.reserve.ensures.items c.reserve.ensures.capacity,
      timed_same g.O.KeyOrder.bytes_of s.list s.schedule.pending s.schedule.expiry s.room c.self.invariant.1 c.reserve.new.self new.pending new.expiry c.reserve.ensures.items c.reserve.ensures.numbers more.pending more.expiry more.more_pending more.more_expiry,
    )

pub invariant_of-self-2 : goal.invariant_of-self-2
invariant_of-self-2 g c =
    let s = c.self.inside in
    let more = c.reserve_for.ensures in
    let new = c.reserve_for.new.self in
    let room = c.in_ok-reserve_for.ensures {u = tt} in (
      kept_same s.counts s.rpts s.list c.reserve.new.self c.self.invariant.0 c.reserve.ensures.items c.reserve.ensures.capacity,
      timed_more g.O.KeyOrder.bytes_of c.reserve.new.self new.pending new.expiry s.room c.in-Some.wanted
          (timed_same g.O.KeyOrder.bytes_of s.list s.schedule.pending s.schedule.expiry s.room c.self.invariant.1 c.reserve.new.self new.pending new.expiry c.reserve.ensures.items c.reserve.ensures.numbers more.pending more.expiry more.more_pending more.more_expiry)
          (omega (arith, c.len.ensures, c.in-Some.ensures {u = tt})) room.pending_room room.expiry_room room.small,
    )

pub returns-in_err-reserve-clause-none : goal.returns-in_err-reserve-clause-none
returns-in_err-reserve-clause-none g c none = absurd (false≢true ((c.in_err-reserve.ensures {u = tt}).fits (omega (arith, none, c.self.invariant.0.fits))))
