use Rattle.pim_jp.proofs.Words.{◌∙◌, err_from_is_err_and, rest, kinds_at}
use Rattle.pim_jp.proofs.SetLoop.{sets_more, sets_stop, sets_told, sets_all}
use Rattle.pim_jp.proofs.reading.check_sets.Goals as goal

pub returns-in_err-after-clause-reported : goal.returns-in_err-after-clause-reported
returns-in_err-after-clause-reported g c =
    let p = err_from_is_err_and c.from_residual.result c.from_residual.ensures.1 in
    rw (p.1, p.2) (sets_stop _ _ _ _ _ _ _ _ c.loop.invariant c.loop-test.true c.in_err-after.ensures.stops)

pub loop-preserved : goal.loop-preserved
loop-preserved g c =
    rw c.in_ok-after.ensures.after
    (sets_more _ _ _ _ _ _ _ c.loop.invariant c.loop-test.true c.in_ok-after.ensures.passes c.in_ok-after.ensures.whole)

pub returns-in_err-with_place-clause-reported : goal.returns-in_err-with_place-clause-reported
returns-in_err-with_place-clause-reported g c =
    let p = err_from_is_err_and c.from_residual-in_err-with_place.result c.from_residual-in_err-with_place.ensures.1 in
    rw (p.1, p.2)
    (sets_told _ _ _ _ _ _ _ _ c.loop.invariant c.loop-test.false
    (c.in_err-with_place.ensures.reported (kinds_at g.F.Family.family rest c.loop.left.now) c.check_rest.ensures))

pub returns-clause-reported : goal.returns-clause-reported
returns-clause-reported g c =
    let all = sets_all _ _ _ _ _ _ _ c.loop.invariant c.loop-test.false in
    all.0 ∙ c.in_ok-with_place.ensures.reported (kinds_at g.F.Family.family rest c.loop.left.now) c.check_rest.ensures

pub returns-clause-whole : goal.returns-clause-whole
returns-clause-whole g c = (sets_all _ _ _ _ _ _ _ c.loop.invariant c.loop-test.false).1
