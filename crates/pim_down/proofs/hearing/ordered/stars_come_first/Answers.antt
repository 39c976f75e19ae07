use Rattle.pim_down.proofs.Words.{◌∙◌, sym, arith, false≢true}
use Rattle.pim_down.proofs.Listing.{first_more, all_first}
use Rattle.pim_down.proofs.hearing.ordered.stars_come_first.Goals.{else-is_star_join-via-then-is_star_join+else-have_rpts_of, else-is_star_join-via-else-is_star_join}
use Rattle.pim_down.proofs.hearing.ordered.stars_come_first.Goals as goal

pub loop-index-preserved : goal.loop-index-preserved
loop-index-preserved g c =
    let bytes_of = g.F.Family.bytes_of in
    first_more bytes_of c.args.events.now c.loop-index.index c.index-events-index.result c.loop-index-test.true c.index-events-index.is c.loop-index.invariant
    (λ star. elim c.else-is_star_join.branch [
      | else-is_star_join-via-then-is_star_join+else-have_rpts_of w ↦ sym w.have_rpts_of.ensures ∙ w.if-have_rpts_of.false
      | else-is_star_join-via-else-is_star_join w ↦ absurd (false≢true (sym w.if-is_star_join.false ∙ c.is_star_join.ensures bytes_of ∙ star))
    ])

pub returns : goal.returns
returns g c all = all_first g.F.Family.bytes_of c.args.events.now c.loop-index.index (omega (arith, c.loop-index-test.false)) c.loop-index.invariant
