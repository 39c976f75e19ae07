use Rattle.std.proofs.Common.{◌<◌, ◌+◌, arith, ap, drop, length, sym}
use Rattle.std.proofs.lemmas.List.{drop_all}
use Rattle.pim_audit.specs.Touched.{machine_seen, machines_seen}
use Rattle.pim_audit.proofs.Watching.{apart_of_all, apart_of_touched, seen_first, watches_all, watches_first, watches_next}
use Rattle.pim_audit.proofs.watched.watched_machines.Goals as goal

pub returns-then-is_all : goal.returns-then-is_all
returns-then-is_all g c known holds =
    apart_of_all known g.F.Family.family c.args.sides.now c.args.dues.now (machines_seen g.F.Family.bytes_of c.add_all.new.machines.keys)
    c.in_ok-add_all.ensures

pub loop-machine-init : goal.loop-machine-init
loop-machine-init g c =
    let bytes_of = g.F.Family.bytes_of in
    watches_first c.args.sides.now c.args.dues.now (machines_seen bytes_of c.machines-machine-items.result.now) c.args.touched.now.machines
    (machines_seen bytes_of c.new-machines.result.keys) c.machines-machine-items.ensures

pub loop-machine-preserved : goal.loop-machine-preserved
loop-machine-preserved g c =
    let bytes_of = g.F.Family.bytes_of in
    let items = c.machines-machine-items.result.now in
    let index = c.loop-machine.machine-index in
    let below : index < length items = omega (arith, c.loop-machine-test.true, c.loop-machine.auto.machine-index-end) in
    watches_next c.args.sides.now c.args.dues.now (machine_seen bytes_of c.machine-item.result) (machines_seen bytes_of (drop index items))
    (machines_seen bytes_of (drop (index + 1) items)) c.args.touched.now.machines (machines_seen bytes_of c.loop-machine.machines.keys)
    (machines_seen bytes_of c.add_touched.new.machines.keys)
    (seen_first (machine_seen bytes_of) items index c.machine-item.result below c.machine-item.is) c.loop-machine.invariant
    c.in_ok-add_touched.ensures.has c.in_ok-add_touched.ensures.grows

pub returns : goal.returns
returns g c known holds =
    let bytes_of = g.F.Family.bytes_of in
    apart_of_touched known g.F.Family.family c.args.sides.now c.args.dues.now (machines_seen bytes_of c.loop-machine.machines.keys)
    c.args.touched.now (sym c.if-is_all.ensures)
    (watches_all c.args.sides.now c.args.dues.now
    (machines_seen bytes_of (drop c.loop-machine.machine-index c.machines-machine-items.result.now)) c.args.touched.now.machines
    (machines_seen bytes_of c.loop-machine.machines.keys)
    (ap (machines_seen bytes_of) (drop_all c.loop-machine.machine-index c.machines-machine-items.result.now c.loop-machine-test.false))
    c.loop-machine.invariant)
    holds
