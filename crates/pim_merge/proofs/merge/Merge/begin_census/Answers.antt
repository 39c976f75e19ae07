use Rattle.pim_merge.proofs.Words.{ap, MergeState}
use Rattle.pim_merge.proofs.Taking.{census_there}
use Rattle.pim_merge.proofs.merge.Merge.begin_census.Goals as goal

pub returns-clause-lanes : goal.returns-clause-lanes
returns-clause-lanes g c =
    census_there c.self.inside.lanes.items c.args.self.now.lanes c.args.capture c.index_mut.result.now c.begin_census.new.self
    g.F.Family.family (g.F.Family.bytes_of c.args.own) c.requires c.index_mut.ensures.value
    (ap (λ (m : MergeState). m.lanes) c.self.view_is) c.begin_census.ensures
