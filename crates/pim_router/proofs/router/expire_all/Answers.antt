use Rattle.pim_router.proofs.Words.{◌<◌, ◌∙◌, length, set, ap, sym, arith, expired_at}
use Rattle.std.proofs.lemmas.List.Edits.{map_over_more}
use Rattle.pim_router.proofs.router.expire_all.Goals as goal

pub loop-table-preserved : goal.loop-table-preserved
loop-table-preserved g c =
    let within : c.loop-table.table-index < length c.args.tables.now = omega (arith, c.loop-table-test.true, c.loop-table.auto.tables) in
    ap (set c.loop-table.tables c.loop-table.table-index) (c.expire.ensures ∙ ap (expired_at c.args.now) (sym c.table-item.is))
    ∙ map_over_more (expired_at c.args.now) c.args.tables.now c.loop-table.tables c.loop-table.table-index c.table-item.result within c.loop-table.invariant c.table-item.is
