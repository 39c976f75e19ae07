use Rattle.pim_form.proofs.Words.{◌∙◌, sym, ap, arith, is_in_join, is_joined_at}
use Rattle.pim_form.proofs.Demanded.{stops, goes_on, ended}
use Rattle.pim_form.proofs.settling.all_joined.Goals as goal

pub returns-then-not-is_in_join : goal.returns-then-not-is_in_join
returns-then-not-is_in_join g c =
    stops g.F.Family.bytes_of (is_joined_at c.args.ports.now.records c.args.port (g.F.Family.bytes_of c.args.group)) c.args.sources.now c.loop-source.source-index c.source-item.result c.loop-source-test.true c.source-item.is
    (sym c.if-not-is_in_join.true ∙ c.is_in_join.ensures ∙ ap is_in_join c.state_of.ensures.state) c.loop-source.invariant

pub loop-source-preserved : goal.loop-source-preserved
loop-source-preserved g c =
    goes_on g.F.Family.bytes_of (is_joined_at c.args.ports.now.records c.args.port (g.F.Family.bytes_of c.args.group)) c.args.sources.now c.loop-source.source-index c.source-item.result c.loop-source-test.true c.source-item.is
    (sym c.if-not-is_in_join.false ∙ c.is_in_join.ensures ∙ ap is_in_join c.state_of.ensures.state) c.loop-source.invariant

pub returns : goal.returns
returns g c = ended g.F.Family.bytes_of (is_joined_at c.args.ports.now.records c.args.port (g.F.Family.bytes_of c.args.group)) c.args.sources.now c.loop-source.source-index (omega arith) c.loop-source.invariant
