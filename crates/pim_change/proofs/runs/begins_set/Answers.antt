use Rattle.std.proofs.Common.{◌∙◌, arith}
use Rattle.pim_change.proofs.RunCounts.{begins_first, begins_next}
use Rattle.pim_change.proofs.runs.begins_set.Goals as goal

pub returns-then-index-eq0 : goal.returns-then-index-eq0
returns-then-index-eq0 g c =
    begins_first g.F.Family.bytes_of c.args.units.now c.args.index (g.F.Family.bytes_of c.args.group)
    (omega (arith, c.if-index-eq0.true))

pub returns : goal.returns
returns g c =
    c.ne.ensures ∙ begins_next g.F.Family.bytes_of c.args.units.now c.args.index c.index-units-index.result
    (g.F.Family.bytes_of c.args.group) _ (λ first. omega (arith, first, c.if-index-eq0.false)) c.requires
    (g.met.F.Family.equality_of_bytes _ _)
