use Rattle.pim_form.proofs.Words.{◌∙◌, ℕ, List, sym, ap, arith, via_of, is_neighbour}
use Rattle.pim_form.proofs.Demanded.{stops, goes_on, ended}
use Rattle.pim_form.proofs.toward.all_reached.Goals as goal

pub returns-then-not-is_neighbour : goal.returns-then-not-is_neighbour
returns-then-not-is_neighbour g c =
    stops g.F.Family.bytes_of (λ (source : List ℕ). is_neighbour (g.F.Family.bytes_of c.args.upstream) (via_of g.F.Family.family c.args.routes.now source)) c.args.sources.now c.loop-source.source-index c.source-item.result c.loop-source-test.true c.source-item.is
    (sym c.if-not-is_neighbour.true ∙ c.is_neighbour.ensures ∙ ap (is_neighbour (g.F.Family.bytes_of c.args.upstream)) c.via.ensures) c.loop-source.invariant

pub loop-source-preserved : goal.loop-source-preserved
loop-source-preserved g c =
    goes_on g.F.Family.bytes_of (λ (source : List ℕ). is_neighbour (g.F.Family.bytes_of c.args.upstream) (via_of g.F.Family.family c.args.routes.now source)) c.args.sources.now c.loop-source.source-index c.source-item.result c.loop-source-test.true c.source-item.is
    (sym c.if-not-is_neighbour.false ∙ c.is_neighbour.ensures ∙ ap (is_neighbour (g.F.Family.bytes_of c.args.upstream)) c.via.ensures) c.loop-source.invariant

pub returns : goal.returns
returns g c = ended g.F.Family.bytes_of (λ (source : List ℕ). is_neighbour (g.F.Family.bytes_of c.args.upstream) (via_of g.F.Family.family c.args.routes.now source)) c.args.sources.now c.loop-source.source-index (omega arith) c.loop-source.invariant
