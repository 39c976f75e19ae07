use Rattle.pim_jp.proofs.EntryLoop.{Reached}
use Rattle.pim_jp.proofs.walking.check_entries.Given as goal

abbrev pub invariant-loop-place : goal.invariant-loop-place
invariant-loop-place g l = Reached g.F.Family.family l.fn.has_star l.fn.bytes l.place l.star l.source l.rpt l.rest
