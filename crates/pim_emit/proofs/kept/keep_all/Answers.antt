use Rattle.pim_emit.proofs.Words.{◌∙◌, refl, sym, subst, IsMessage, position_seen}
use Rattle.pim_emit.proofs.KeptMessages.{AreKept, none_kept, one_more_kept, all_kept}
use Rattle.pim_emit.proofs.kept.keep_all.Goals as goal

pub loop-length-init : goal.loop-length-init
loop-length-init g c = record {
  kept = subst (AreKept g.F.Family.family c.args.writer.now c.args.demand.now _) (sym c.requires.none) (none_kept g.F.Family.family c.args.writer.now c.args.demand.now);
  position = tt;
  room = refl;
}

pub loop-length-preserved : goal.loop-length-preserved
loop-length-preserved g c =
    let family = g.F.Family.family in
    let bytes_of = g.F.Family.bytes_of in
    let writing = c.args.writer.now in
    let demand_seen = c.args.demand.now in
    let message : IsMessage family writing demand_seen (position_seen bytes_of c.loop-length.position) (position_seen bytes_of c.next_message.new.position) c.split_at.result.0.now =
    subst (IsMessage family writing demand_seen (position_seen bytes_of c.loop-length.position) (position_seen bytes_of c.next_message.new.position)) (sym c.split_at.ensures.front)
    c.in-Some.ensures.next in
    record {
      kept = subst (AreKept family writing demand_seen (position_seen bytes_of c.next_message.new.position)) (sym c.in-Ok.ensures.ok)
          (one_more_kept family writing demand_seen (position_seen bytes_of c.loop-length.position) (position_seen bytes_of c.next_message.new.position) c.split_at.result.0.now _ c.loop-length.invariant.kept message);
      position = message.position;
      room = c.next_message.ensures.length ∙ c.loop-length.invariant.room;
    }

pub returns : goal.returns
returns g c =
    all_kept g.F.Family.family c.args.writer.now c.args.demand.now (position_seen g.F.Family.bytes_of c.loop-length.position) _ c.loop-length.invariant.kept
    c.in_default.ensures.next
