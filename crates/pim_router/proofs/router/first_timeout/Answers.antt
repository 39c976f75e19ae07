use Rattle.pim_router.proofs.Words.{ap, ◌∙◌, arith, sooner, next_end}
use Rattle.pim_router.proofs.Timeouts.{one_more, no_more}
use Rattle.pim_router.proofs.router.first_timeout.Goals as goal

pub loop-table-preserved : goal.loop-table-preserved
loop-table-preserved g c =
    one_more c.args.tables.now c.loop-table.table-index c.table-item.result c.loop-table.first c.sooner-first.result c.loop-table-test.true
    (c.sooner-first.ensures ∙ ap (sooner c.loop-table.first) (c.next_end.ensures ∙ ap next_end c.table-item.is)) c.loop-table.invariant

pub returns : goal.returns
returns g c = no_more c.args.tables.now c.loop-table.table-index c.loop-table.first (omega (arith, c.loop-table-test.false)) c.loop-table.invariant
