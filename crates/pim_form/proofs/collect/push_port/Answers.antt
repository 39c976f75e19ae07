use Rattle.pim_form.proofs.Words.{◌∙◌, sym, subst, false≢true, collected, of_port}
use Rattle.pim_down.specs.Seen.{record_of_seen}
use Rattle.pim_form.proofs.Collected.{is_run, IsRun}
use Rattle.pim_form.proofs.Collecting.{IsCollecting, starts, nothing, takes, same_group, other_group, ends}
use Rattle.pim_form.proofs.PortDemand.{are_of_port}
use Rattle.pim_form.proofs.collect.push_port.Goals as goal

pub loop-record-init : goal.loop-record-init
loop-record-init g c =
    let bytes_of = g.F.Family.bytes_of in
    let all = of_port c.args.port c.args.ports.now in
    let are = are_of_port g.F.Family.family c.args.ports.now c.args.port c.is_sound.ensures in
    let run : IsRun all = is_run c.args.port all are.here are.ascending in
    let first = starts bytes_of c.reserve.new.self.items c.begin.new.row.items c.in_ok-group.group (record_of_seen bytes_of c.in-Some.first) c.next.new.self all (sym c.records_on-records.ensures ∙ c.in-Some.ensures.steps) run c.in_ok-group.ensures in
    subst (λ places. IsCollecting bytes_of c.begin.new.row.items places c.in_ok-group.group c.into_iter-record-iterator.result (collected all)) (sym c.requires)
    (subst (λ left. IsCollecting bytes_of c.begin.new.row.items _ c.in_ok-group.group left (collected all)) (sym c.into_iter-record-iterator.ensures.into_iter_gives) first)

pub add-requires-clause-takes : goal.add-requires-clause-takes
add-requires-clause-takes g c =
    let bytes_of = g.F.Family.bytes_of in
    takes bytes_of c.loop-record.row.items c.loop-record.row.items c.loop-record.places.items c.loop-record.places.items c.loop-record.group c.loop-record.group (record_of_seen bytes_of c.in-Some-record.record) c.loop-record.record-iterator c.next-in-loop-record.new.self (collected (of_port c.args.port c.args.ports.now))
    c.in-Some-record.ensures.steps c.loop-record.invariant ((g.met.F.Family.equality_of_bytes c.in-Some-record.record.key.group c.loop-record.group.group).0 (sym c.if-eq.ensures))

pub loop-record-preserved-in-Continue-branch-3 : goal.loop-record-preserved-in-Continue-branch-3
loop-record-preserved-in-Continue-branch-3 g c =
    let bytes_of = g.F.Family.bytes_of in
    same_group bytes_of c.loop-record.row.items c.add.new.row.items c.loop-record.places.items c.loop-record.places.items c.loop-record.group c.add.new.group (record_of_seen bytes_of c.in-Some-record.record) c.loop-record.record-iterator c.next-in-loop-record.new.self (collected (of_port c.args.port c.args.ports.now))
    c.in-Some-record.ensures.steps c.loop-record.invariant ((g.met.F.Family.equality_of_bytes c.in-Some-record.record.key.group c.loop-record.group.group).0 (sym c.if-eq.ensures)) c.in_ok-add.ensures

pub loop-record-preserved : goal.loop-record-preserved
loop-record-preserved g c =
    let bytes_of = g.F.Family.bytes_of in
    other_group bytes_of c.loop-record.row.items c.begin-else-eq.new.row.items c.loop-record.places.items c.close.new.places.items c.loop-record.group c.in_ok-group-2.group (record_of_seen bytes_of c.in-Some-record.record) c.loop-record.record-iterator c.next-in-loop-record.new.self (collected (of_port c.args.port c.args.ports.now))
    c.in-Some-record.ensures.steps c.loop-record.invariant
    (λ same. false≢true (c.if-eq.ensures ∙ (g.met.F.Family.equality_of_bytes c.in-Some-record.record.key.group c.loop-record.group.group).1 same))
    (λ form draft. c.in_ok-close.ensures c.loop-record.row.items form c.loop-record.invariant.last draft) c.in_ok-group-2.ensures

pub returns-in_default : goal.returns-in_default
returns-in_default g c = nothing g.F.Family.bytes_of c.args.row.now.items c.args.places.now.items (of_port c.args.port c.args.ports.now) (sym c.records_on-records.ensures ∙ c.in_default.ensures.steps.0) c.requires

pub returns : goal.returns
returns g c =
    ends g.F.Family.bytes_of c.loop-record.row.items c.loop-record.places.items c.close-2.new.places.items c.loop-record.group c.loop-record.record-iterator (collected (of_port c.args.port c.args.ports.now)) c.in-None.ensures.steps.0 c.loop-record.invariant
    (λ form draft. c.in_ok-close-2.ensures c.loop-record.row.items form c.loop-record.invariant.last draft)
