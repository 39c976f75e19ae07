use Rattle.std.proofs.Common.{◌-◌, arith}
use Rattle.std.proofs.lemmas.Grind.{div_ceil_times}
use Rattle.pim_router.proofs.router.refreshes_before.Goals as goal

pub returns-clause-all : goal.returns-clause-all
returns-clause-all c =
    let whole = div_ceil_times (c.args.end - c.args.next) 60000 (omega arith) in
    omega (arith, whole.0, c.saturating_sub.ensures, c.div_ceil.ensures)

pub returns-clause-no_more : goal.returns-clause-no_more
returns-clause-no_more c =
    let whole = div_ceil_times (c.args.end - c.args.next) 60000 (omega arith) in
    omega (arith, whole.1, c.saturating_sub.ensures, c.div_ceil.ensures)
