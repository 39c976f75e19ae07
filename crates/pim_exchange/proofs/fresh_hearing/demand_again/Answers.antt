use Rattle.pim_router.specs.Canonical.{IsTooBig}
use Rattle.pim_exchange.proofs.FreshHearings.{told_big, fits_or_not}
use Rattle.pim_exchange.proofs.fresh_hearing.demand_again.Goals as goal

pub unreachable-requires : goal.unreachable-requires
unreachable-requires g c =
    fits_or_not c.one_normal_form.ensures g.F.Family.family c.args.by.now c.args.router.now (g.F.Family.bytes_of c.in-Err-TooBig.field-0-0) c.requires
    (told_big g.F.Family.bytes_of (IsTooBig g.F.Family.family c.args.by.now c.args.router.now) c.canonical.result c.in-Err-TooBig.field-0 c.in-Err-TooBig.field-0-0 c.in-Err-TooBig.is c.in-Err-TooBig.field-0-is c.canonical.ensures.too_big)
