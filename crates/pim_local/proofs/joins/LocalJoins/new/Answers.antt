use Rattle.pim_local.proofs.Words.{join_seen}
use Rattle.pim_local.proofs.Added.{no_joins}
use Rattle.pim_local.proofs.joins.LocalJoins.new.Goals as goal

pub invariant_of-result : goal.invariant_of-result
invariant_of-result g c = no_joins g.F.Family.family (join_seen g.F.Family.bytes_of) c.new.result.items c.new.ensures.items
