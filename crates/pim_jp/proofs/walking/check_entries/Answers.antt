use Rattle.pim_jp.proofs.EntryLoop.{reached_none, reached_more}
use Rattle.pim_jp.proofs.walking.check_entries.Goals as goal

pub loop-place-init : goal.loop-place-init
loop-place-init g c = reached_none g.F.Family.family c.args.has_star c.args.bytes.now

pub loop-place-preserved : goal.loop-place-preserved
loop-place-preserved g c =
    rw (c.split_at.ensures.back, c.source_length.ensures)
    (reached_more _ _ _ _ _ _ _ _ _ _ _ c.loop-place.invariant c.in-Ok.ensures.reported c.in-Ok.ensures.whole c.in-Ok.ensures.star c.in-Ok.ensures.source c.in-Ok.ensures.rpt)
