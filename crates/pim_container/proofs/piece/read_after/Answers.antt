use Rattle.pim_container.proofs.Words.{◌≡◌, subst, arith, vec_len, err_from_is_err_and, ConsumesAtMost}
use Rattle.pim_container.proofs.Taken.{after_head, rest_lost}
use Rattle.pim_container.proofs.piece.read_after.Goals as goal

pub returns-in_err-got-clause-taken : goal.returns-in_err-got-clause-taken
returns-in_err-got-clause-taken g c =
    let p = err_from_is_err_and c.from_residual-in_err-got.result c.from_residual-in_err-got.ensures.1 in
    let old = g.R.Feed.remaining c.args.device.now in
    let new = g.R.Feed.remaining c.read_up_to.new.feed in
    let size : vec_len c.fit.new.buffer ≡ c.args.size = c.in_ok-fit.ensures.length in
    rw (p.1, p.2) (after_head c.args.size c.args.head.now old new c.requires
    (subst (λ n. ConsumesAtMost n old new) (omega (arith, size)) c.in_err-got.ensures.front))

pub returns-clause-taken : goal.returns-clause-taken
returns-clause-taken g c =
    let size : vec_len c.fit.new.buffer ≡ c.args.size = c.in_ok-fit.ensures.length in
    rest_lost c.args.size c.in_ok-got.got c.args.head.now c.read_up_to.new.buffer (g.R.Feed.remaining c.args.device.now) (g.R.Feed.remaining c.read_up_to.new.feed)
    (omega (arith, size)) c.in_ok-got.ensures.bound (omega (arith, size)) c.in_ok-got.ensures.bytes
