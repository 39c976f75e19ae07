use Rattle.pim_router.specs.Change.{IsChangeTooBig}
use Rattle.pim_exchange.proofs.Changes.{never_too_big}
use Rattle.pim_exchange.proofs.FreshHearings.{told_big}
use Rattle.pim_exchange.proofs.change_text.change_between.Goals as goal

pub unreachable-requires : goal.unreachable-requires
unreachable-requires g c =
    never_too_big c.one_normal_form.ensures c.change_fits.ensures g.F.Family.family c.args.by.now c.in-Ok.last c.args.other.now (g.F.Family.bytes_of c.in-Err-TooBig.field-0-0) c.requires.fits
    (told_big g.F.Family.bytes_of (IsChangeTooBig g.F.Family.family c.args.by.now c.in-Ok.last c.args.other.now) c.triggered.result c.in-Err-TooBig.field-0 c.in-Err-TooBig.field-0-0 c.in-Err-TooBig.is c.in-Err-TooBig.field-0-is
    c.triggered.ensures.too_big)
