use Rattle.pim_emit.proofs.Words.{◌∙◌, refl, sym, ap, subst, arith, DemandSeen, IsMessage, position_seen}
use Rattle.pim_emit.proofs.Action.{asked_of_writer, none_gone, one_more_gone, all_gone, some_gone}
use Rattle.pim_emit.proofs.canonical.write_canonical.Goals as goal

pub loop-length-init : goal.loop-length-init
loop-length-init g c =
    let demand = asked_of_writer g.F.Family.family c.args.writer.now c.args.routes.now c.args.ports.now c.new-demand.result (g.F.Family.bytes_of c.upstream.result)
    c.form_of_demand_toward.ensures c.is_sound.ensures c.new-demand.ensures c.upstream.ensures in
    record {
      underway = none_gone g.F.Family.family c.args.writer.now c.new-demand.result (g.D.Drain.contents c.args.out.now) demand.few;
      position = tt;
      room = refl;
      failures = refl;
    }

pub loop-length-preserved : goal.loop-length-preserved
loop-length-preserved g c =
    let family = g.F.Family.family in
    let bytes_of = g.F.Family.bytes_of in
    let writing = c.args.writer.now in
    let demand_seen = c.new-demand.result in
    let message : IsMessage family writing demand_seen (position_seen bytes_of c.loop-length.position) (position_seen bytes_of c.next_message.new.position) c.split_at.result.0.now =
    subst (IsMessage family writing demand_seen (position_seen bytes_of c.loop-length.position) (position_seen bytes_of c.next_message.new.position)) (sym c.split_at.ensures.front)
    c.in-Some-next_message.ensures.next in
    record {
      underway = one_more_gone family writing demand_seen c.first_run_is_written.ensures c.one_list_of_messages.ensures
          (position_seen bytes_of c.loop-length.position) (position_seen bytes_of c.next_message.new.position) c.split_at.result.0.now c.loop-length.count c.loop-length.sent c.send_framed.new.sent
          _ _ _ c.loop-length.invariant.underway message
          (omega (arith, c.split_at.ensures.front_len, c.in-Some-next_message.ensures.within, c.is_writing.ensures.most)) c.in-Ok.ensures.all c.send_framed.ensures.bytes;
      position = message.position;
      room = c.next_message.ensures.length ∙ c.loop-length.invariant.room;
      failures = c.in-Ok.ensures.count ∙ c.loop-length.invariant.failures;
    }

pub returns-clause-written : goal.returns-clause-written
returns-clause-written g c =
    let family = g.F.Family.family in
    let bytes_of = g.F.Family.bytes_of in
    let writing = c.args.writer.now in
    let demand_seen = c.new-demand.result in
    let demand = asked_of_writer family writing c.args.routes.now c.args.ports.now demand_seen (bytes_of c.upstream.result)
    c.form_of_demand_toward.ensures c.is_sound.ensures c.new-demand.ensures c.upstream.ensures in
    all_gone family writing c.args.routes.now c.args.ports.now demand_seen demand.is (ap (λ (a : DemandSeen). a.table) c.new-demand.ensures)
    (position_seen bytes_of c.loop-length.position) c.loop-length.count c.loop-length.sent _ _ c.loop-length.invariant.underway c.in_default-next_message.ensures.next

pub returns-in_default-send_framed-clause-written : goal.returns-in_default-send_framed-clause-written
returns-in_default-send_framed-clause-written g c =
    let family = g.F.Family.family in
    let bytes_of = g.F.Family.bytes_of in
    let writing = c.args.writer.now in
    let demand_seen = c.new-demand.result in
    let demand = asked_of_writer family writing c.args.routes.now c.args.ports.now demand_seen (bytes_of c.upstream.result)
    c.form_of_demand_toward.ensures c.is_sound.ensures c.new-demand.ensures c.upstream.ensures in
    let message : IsMessage family writing demand_seen (position_seen bytes_of c.loop-length.position) (position_seen bytes_of c.next_message.new.position) c.split_at.result.0.now =
    subst (IsMessage family writing demand_seen (position_seen bytes_of c.loop-length.position) (position_seen bytes_of c.next_message.new.position)) (sym c.split_at.ensures.front)
    c.in-Some-next_message.ensures.next in
    some_gone family writing c.args.routes.now c.args.ports.now demand_seen demand.is (ap (λ (a : DemandSeen). a.table) c.new-demand.ensures)
    c.one_normal_form.ensures c.first_run_is_written.ensures c.one_list_of_messages.ensures
    (position_seen bytes_of c.loop-length.position) (position_seen bytes_of c.next_message.new.position) c.split_at.result.0.now c.loop-length.count c.loop-length.sent c.send_framed.new.sent
    _ _ _ c.loop-length.invariant.underway message c.send_framed.ensures.rises c.send_framed.ensures.most c.send_framed.ensures.bytes
