use Rattle.pim_emit.proofs.Words.{◌∙◌, eqb, sym, eqb-true, piece_seen, sources_seen}
use Rattle.pim_emit.proofs.Above.{by_test}
use Rattle.pim_emit.proofs.DraftSteps.{all_told}
use Rattle.pim_emit.proofs.draft.has_more.Goals as goal

pub returns-else-reported-most : goal.returns-else-reported-most
returns-else-reported-most g c =
    let bytes_of = g.F.Family.bytes_of in
    let count = c.args.reported.now.count in
    by_test (eqb count c.args.most) (λ e. absurd (c.if-reported-most.false (eqb-true count c.args.most e))) (λ e. e)
    ∙ sym (all_told (piece_seen bytes_of c.args.piece.now) c.args.demand.now.form c.args.most (sources_seen bytes_of c.args.reported.now) c.requires.reported c.if-reported-most.false)
