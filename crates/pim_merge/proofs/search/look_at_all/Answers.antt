use Rattle.pim_merge.proofs.Looking.{begin_looking, look_more}
use Rattle.pim_merge.proofs.Stopped.{stopped_turn, stopped_left, stopped_cause, stopped_reads, stopped_memory, stopped_rooms, stopped_tallies, stopped_record}
use Rattle.pim_merge.proofs.Repeating.{failed_again, none_failed}
use Rattle.pim_merge.proofs.search.look_at_all.Goals as goal

pub loop-capture-init : goal.loop-capture-init
loop-capture-init g c = begin_looking _

pub loop-capture-preserved : goal.loop-capture-preserved
loop-capture-preserved g c =
    look_more c.loop-capture.capture _ c.loop-capture.lanes c.look.new.self c.index-lanes-capture.result (rw c.loop-capture.auto.lanes c.loop-capture-test.true) c.loop-capture.invariant
    c.in_default.ensures.coming c.in_default.ensures.looked c.look.ensures.left c.in_default.ensures.reads c.look.ensures.room c.in_default.ensures.repeated c.look.ensures.tally

pub returns-in-Err-clause-fault : goal.returns-in-Err-clause-fault
returns-in-Err-clause-fault g c =
    stopped_turn c.loop-capture.capture _ c.loop-capture.lanes c.look.new.self c.index-lanes-capture.result c.in-Err.fault c.next_place-place.result (rw c.loop-capture.auto.lanes c.loop-capture-test.true) c.loop-capture.invariant

pub returns-in-Err-clause-cause : goal.returns-in-Err-clause-cause
returns-in-Err-clause-cause g c =
    stopped_cause c.loop-capture.capture _ c.loop-capture.lanes c.look.new.self c.index-lanes-capture.result c.in-Err.fault c.next_place-place.result (rw c.loop-capture.auto.lanes c.loop-capture-test.true) c.loop-capture.invariant
    c.in-Err.ensures.fault

pub returns-in-Err-clause-left : goal.returns-in-Err-clause-left
returns-in-Err-clause-left g c =
    stopped_left c.loop-capture.capture _ c.loop-capture.lanes c.look.new.self c.index-lanes-capture.result c.in-Err.fault c.next_place-place.result (rw c.loop-capture.auto.lanes c.loop-capture-test.true) c.loop-capture.invariant
    c.look.ensures.left

pub returns-in-Err-clause-reads : goal.returns-in-Err-clause-reads
returns-in-Err-clause-reads g c =
    stopped_reads c.loop-capture.capture _ c.loop-capture.lanes c.look.new.self c.index-lanes-capture.result c.in-Err.fault c.next_place-place.result (rw c.loop-capture.auto.lanes c.loop-capture-test.true) c.loop-capture.invariant
    c.in-Err.ensures.reads

pub returns-in-Err-clause-memory : goal.returns-in-Err-clause-memory
returns-in-Err-clause-memory g c =
    stopped_memory c.loop-capture.capture _ c.loop-capture.lanes c.look.new.self c.index-lanes-capture.result c.in-Err.fault c.next_place-place.result (rw c.loop-capture.auto.lanes c.loop-capture-test.true) c.loop-capture.invariant
    c.in-Err.ensures.memory

pub returns-in-Err-clause-rooms : goal.returns-in-Err-clause-rooms
returns-in-Err-clause-rooms g c =
    stopped_rooms c.loop-capture.capture _ c.loop-capture.lanes c.look.new.self c.index-lanes-capture.result c.in-Err.fault c.next_place-place.result (rw c.loop-capture.auto.lanes c.loop-capture-test.true) c.loop-capture.invariant
    c.look.ensures.room

pub returns-in-Err-clause-repeated : goal.returns-in-Err-clause-repeated
returns-in-Err-clause-repeated g c number fails =
    failed_again c.loop-capture.capture _ c.loop-capture.lanes c.index-lanes-capture.result (rw c.loop-capture.auto.lanes c.loop-capture-test.true) c.loop-capture.invariant
    c.in-Err.fault c.next_place-place.result number c.in-Err.ensures.unlooked c.in-Err.ensures.repeated fails

pub returns-clause-repeated : goal.returns-clause-repeated
returns-clause-repeated g c number fails =
    none_failed c.loop-capture.capture number _ c.loop-capture.lanes (rw c.loop-capture.auto.lanes c.loop-capture-test.false) c.loop-capture.invariant fails

pub returns-in-Err-clause-tallies : goal.returns-in-Err-clause-tallies
returns-in-Err-clause-tallies g c =
    stopped_tallies c.loop-capture.capture _ c.loop-capture.lanes c.look.new.self c.index-lanes-capture.result c.in-Err.fault c.next_place-place.result (rw c.loop-capture.auto.lanes c.loop-capture-test.true) c.loop-capture.invariant
    c.look.ensures.tally

pub returns-in-Err-clause-record : goal.returns-in-Err-clause-record
returns-in-Err-clause-record g c =
    stopped_record c.loop-capture.capture _ c.loop-capture.lanes c.look.new.self c.index-lanes-capture.result c.in-Err.fault c.next_place-place.result (rw c.loop-capture.auto.lanes c.loop-capture-test.true) c.loop-capture.invariant
    c.next_place-place.ensures c.look.ensures.tally

pub returns-clause-tallies : goal.returns-clause-tallies
returns-clause-tallies g c = c.loop-capture.invariant.tallies
