use Rattle.std.proofs.Common.{◌∙◌, ◌<◌, arith, drop, length, ◌+◌, sym, ap}
use Rattle.pim_local.specs.Seen.{join_seen, joins_seen}
use Rattle.pim_audit.specs.Touched.{is_one_of, machines_seen}
use Rattle.pim_audit.proofs.Watching.{local_next, seen_first}
use Rattle.pim_audit.proofs.watched.add_local.Goals as goal

pub loop-join-preserved : goal.loop-join-preserved
loop-join-preserved g c =
    let bytes_of = g.F.Family.bytes_of in
    let items = c.joins-join-items.result.now in
    let index = c.loop-join.join-index in
    let below : index < length items = omega (arith, c.loop-join-test.true, c.loop-join.auto.join-index-end) in
    record {
      but = local_next (join_seen bytes_of c.join-item.result) (joins_seen bytes_of (drop index items))
          (joins_seen bytes_of (drop (index + 1) items)) c.args.local.now
          (machines_seen bytes_of c.loop-join.machines.keys) (machines_seen bytes_of c.add.new.machines.keys)
          (seen_first (join_seen bytes_of) items index c.join-item.result below c.join-item.is) c.loop-join.invariant.but
          (ap (λ what. is_one_of (bytes_of c.join-item.result.group) what (machines_seen bytes_of c.add.new.machines.keys))
          (sym c.machine_of.ensures) ∙ c.in_ok-add.ensures.has) c.in_ok-add.ensures.grows;
      grows = λ group what was. c.in_ok-add.ensures.grows group what (c.loop-join.invariant.grows group what was);
    }
