use Rattle.pim_audit.proofs.Words.{◌<◌, ℕ, List, sym, subst}
use Rattle.pim_down.specs.Seen.{record_of_seen, what_seen}
use Rattle.pim_down.specs.declared.machines.key.What.{What}
use Rattle.pim_audit.proofs.HeldMachines.{left_count, steps}
use Rattle.pim_audit.proofs.OneMachine.{grows_more, grows_not}
use Rattle.pim_audit.proofs.TouchedLists.{begins, next_passed, touches_held}
use Rattle.pim_audit.proofs.touched.Touched.touch_exceptions.Goals as goal

pub loop-record-init : goal.loop-record-init
loop-record-init g c =
    let ports = c.args.ports.now in
    let begun = begins g.F.Family.family ports.ports c.args.port (g.F.Family.bytes_of c.args.group) ports.records c.is_sound.ensures.real
    c.machines_after_near-machines.result (g.F.Family.bytes_of c.take.result) c.args.self.now c.machines_after_near-machines.ensures
    c.take.ensures.bytes in
    record { walks = begun.0; touches = begun.1; grows = grows_not c.args.self.now }

pub loop-record-smaller : goal.loop-record-smaller
loop-record-smaller g c =
    let bytes_of = g.F.Family.bytes_of in
    let group = bytes_of c.args.group in
    let records = c.args.ports.now.records in
    let step = steps c.args.port group records c.loop-record.machines c.next_machine.new.self (record_of_seen bytes_of c.in-Some.record)
    c.is_sound.ensures.ascending c.loop-record.invariant.walks c.in-Some.ensures.reported c.next_machine.ensures.left in
    subst
    (λ (w : What (List ℕ)). left_count c.args.port group records w
    < left_count c.args.port group records c.loop-record.machines.behind.what)
    (sym step.what) step.fewer

pub loop-record-preserved : goal.loop-record-preserved
loop-record-preserved g c =
    let bytes_of = g.F.Family.bytes_of in
    let group = bytes_of c.args.group in
    let ports = c.args.ports.now in
    let step = steps c.args.port group ports.records c.loop-record.machines c.next_machine.new.self (record_of_seen bytes_of c.in-Some.record)
    c.is_sound.ensures.ascending c.loop-record.invariant.walks c.in-Some.ensures.reported c.next_machine.ensures.left in
    record {
      walks = step.walks;
      touches = next_passed g.F.Family.family ports.ports c.args.port group ports.records c.is_sound.ensures.real c.loop-record.machines
          c.next_machine.new.self (what_seen bytes_of c.in-Some.record.key.what) c.loop-record.self c.touch.new.self step
          c.loop-record.invariant.touches c.touch.ensures.grows c.touch.ensures.touches;
      grows = grows_more c.args.self.now c.loop-record.self c.touch.new.self c.loop-record.invariant.grows c.touch.ensures.grows;
    }

pub returns-clause-touches : goal.returns-clause-touches
returns-clause-touches g c =
    let ports = c.args.ports.now in
    touches_held g.F.Family.family ports.ports c.args.port (g.F.Family.bytes_of c.args.group) ports.records c.is_sound.ensures.real
    c.loop-record.machines c.loop-record.self c.loop-record.invariant.walks (sym c.in_default.ensures.reported) c.loop-record.invariant.touches

pub returns-clause-grows : goal.returns-clause-grows
returns-clause-grows g c = c.loop-record.invariant.grows
