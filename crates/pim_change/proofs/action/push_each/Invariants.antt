use Rattle.pim_change.proofs.Words.{◌++◌, drop, units_seen}
use Rattle.pim_change.proofs.Units.{Tells, kind_told}
use Rattle.pim_change.proofs.action.push_each.Given as goal

-- what is told and what is left to tell are all
abbrev pub invariant-loop-source : goal.invariant-loop-source
invariant-loop-source g l =
    let bytes_of = g.F.Family.bytes_of in
    Tells bytes_of l.units.items (kind_told bytes_of l.kind l.group (drop l.source-index l.sources))
    (units_seen bytes_of l.fn.units.items ++ kind_told bytes_of l.kind l.group l.sources)
