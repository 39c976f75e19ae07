use Rattle.std.proofs.Common.{◌<◌, ℕ, List, sym, subst}
use Rattle.pim_down.specs.Seen.{record_of_seen, what_seen}
use Rattle.pim_down.specs.declared.machines.key.What.{What}
use Rattle.pim_audit.specs.Touched.{machines_seen}
use Rattle.pim_audit.proofs.ExceptionWalk.{begins, has_next, has_all_held}
use Rattle.pim_audit.proofs.HeldMachines.{left_count, steps}
use Rattle.pim_audit.proofs.watched.add_exceptions_on.Goals as goal

pub loop-record-init : goal.loop-record-init
loop-record-init g c =
    let bytes_of = g.F.Family.bytes_of in
    let begun = begins g.F.Family.family c.args.ports.now.ports c.args.port (bytes_of c.args.group) c.args.ports.now.records
    c.is_sound.ensures.real c.machines_after_near-walk.result (bytes_of c.least_address.result) c.least_address.ensures
    c.machines_after_near-walk.ensures (machines_seen bytes_of c.args.machines.now.keys) in
    record { walks = begun.0; has = begun.1; grows = λ group what was. was }

pub loop-record-smaller : goal.loop-record-smaller
loop-record-smaller g c =
    let bytes_of = g.F.Family.bytes_of in
    let group = bytes_of c.args.group in
    let records = c.args.ports.now.records in
    let step = steps c.args.port group records c.loop-record.walk c.next_machine.new.self (record_of_seen bytes_of c.in-Some.record)
    c.is_sound.ensures.ascending c.loop-record.invariant.walks c.in-Some.ensures.reported c.next_machine.ensures.left in
    subst
    (λ (w : What (List ℕ)). left_count c.args.port group records w < left_count c.args.port group records c.loop-record.walk.behind.what)
    (sym step.what) step.fewer

pub loop-record-preserved : goal.loop-record-preserved
loop-record-preserved g c =
    let bytes_of = g.F.Family.bytes_of in
    let group = bytes_of c.args.group in
    let records = c.args.ports.now.records in
    let step = steps c.args.port group records c.loop-record.walk c.next_machine.new.self (record_of_seen bytes_of c.in-Some.record)
    c.is_sound.ensures.ascending c.loop-record.invariant.walks c.in-Some.ensures.reported c.next_machine.ensures.left in
    record {
      walks = step.walks;
      has = has_next c.args.port group records c.loop-record.walk c.next_machine.new.self (what_seen bytes_of c.in-Some.record.key.what)
          (machines_seen bytes_of c.loop-record.machines.keys) (machines_seen bytes_of c.add.new.machines.keys) step
          c.loop-record.invariant.has c.in_ok-add.ensures.grows c.in_ok-add.ensures.has;
      grows = λ group what was. c.in_ok-add.ensures.grows group what (c.loop-record.invariant.grows group what was);
    }

pub returns-clause-has : goal.returns-clause-has
returns-clause-has g c =
    let bytes_of = g.F.Family.bytes_of in
    has_all_held c.args.port (bytes_of c.args.group) c.args.ports.now.records c.loop-record.walk
    (machines_seen bytes_of c.loop-record.machines.keys) c.loop-record.invariant.walks (sym c.in_default.ensures.reported)
    c.loop-record.invariant.has
