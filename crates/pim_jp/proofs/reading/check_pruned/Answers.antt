use Rattle.pim_jp.proofs.Words.{◌∙◌, sym, arith, err_from_is_err_and}
use Rattle.pim_jp.proofs.EntryPass.{list_passes, list_stops, list_clashed, types_apart, ok_then, err_then}
use Rattle.pim_jp.proofs.reading.check_pruned.Goals as goal

pub returns-then-not-may_clash-clause-passes : goal.returns-then-not-may_clash-clause-passes
returns-then-not-may_clash-clause-passes g c =
    let apart = types_apart g.F.Family.family c.args.count c.args.joined.now c.args.bytes.now c.in-Ok.pruned.source c.in-Ok.pruned.rpt c.args.types.source c.args.types.rpt
    c.in-Ok.ensures.source c.in-Ok.ensures.rpt c.requires.source c.requires.rpt (sym c.may_clash.ensures ∙ c.if-not-may_clash.true) in
    list_passes g.F.Family.family c.args.count c.args.joined.now c.args.types.star c.args.at c.args.bytes.now (sym c.requires.star) c.in-Ok.ensures.clean apart

pub returns-else-not-may_clash-clause-passes : goal.returns-else-not-may_clash-clause-passes
returns-else-not-may_clash-clause-passes g c =
    ok_then c.check_apart.result
    (list_passes g.F.Family.family c.args.count c.args.joined.now c.args.types.star c.args.at c.args.bytes.now (sym c.requires.star) c.in-Ok.ensures.clean)
    c.check_apart.ensures.apart

pub returns-else-not-may_clash-clause-stops : goal.returns-else-not-may_clash-clause-stops
returns-else-not-may_clash-clause-stops g c =
    err_then c.check_apart.result
    (λ fault. list_clashed g.F.Family.family c.args.count c.args.joined.now c.args.types.star c.args.at c.args.bytes.now c.args.count fault (sym c.requires.star)
    c.in-Ok.ensures.clean (omega arith))
    c.check_apart.ensures.clash

pub returns-in_err-check_apart-in-Err-clause-stops : goal.returns-in_err-check_apart-in-Err-clause-stops
returns-in_err-check_apart-in-Err-clause-stops g c =
    let p = err_from_is_err_and c.from_residual.result c.from_residual.ensures.1 in
    rw (p.1, p.2)
    (list_clashed g.F.Family.family c.args.count c.args.joined.now c.args.types.star c.args.at c.args.bytes.now c.in-Err.stop.place _ (sym c.requires.star)
    c.in-Err.ensures.stop.1 (omega (arith, c.in-Err.ensures.stop.0)) c.in_err-check_apart-in-Err.ensures.clash)

pub returns-in_ok-check_apart-in-Err-clause-stops : goal.returns-in_ok-check_apart-in-Err-clause-stops
returns-in_ok-check_apart-in-Err-clause-stops g c =
    rw c.fault_at.ensures
    (list_stops g.F.Family.family c.args.count c.args.joined.now c.args.types.star c.args.at c.args.bytes.now c.in-Err.stop.place c.in-Err.stop.kind (sym c.requires.star) c.in-Err.ensures.stop
    c.in_ok-check_apart-in-Err.ensures.apart)
