use Rattle.std.proofs.Common.{option_map, subst}
use Rattle.pim_router.specs.Change.{IsChangeTooBig}
use Rattle.pim_router.proofs.ToTell.{to_tell}
use Rattle.pim_router.proofs.router.Router.triggered.Goals as goal

pub returns-in-Some-clause-too_big : goal.returns-in-Some-clause-too_big
returns-in-Some-clause-too_big g c =
    let family = g.F.Family.family in
    let bytes_of = g.F.Family.bytes_of in
    subst (λ r. IsChangeTooBig family c.args.writer.now c.args.reported.now c.args.self.now (option_map bytes_of r)) c.in-Some.is
    (to_tell c.new_stars_alone_are_too_big.ensures family c.args.writer.now c.args.reported.now c.args.self.now c.routes-routes.result.now c.ports-ports.result.now
    (option_map bytes_of c.new_star_too_big.result) c.routes-routes.ensures c.ports-ports.ensures c.is_normal.ensures c.new_star_too_big.ensures)

pub returns-in_default-toward-clause-too_big : goal.returns-in_default-toward-clause-too_big
returns-in_default-toward-clause-too_big g c =
    let family = g.F.Family.family in
    let bytes_of = g.F.Family.bytes_of in
    subst (λ r. IsChangeTooBig family c.args.writer.now c.args.reported.now c.args.self.now (option_map bytes_of r)) c.in_default.is
    (to_tell c.new_stars_alone_are_too_big.ensures family c.args.writer.now c.args.reported.now c.args.self.now c.routes-routes.result.now c.ports-ports.result.now
    (option_map bytes_of c.new_star_too_big.result) c.routes-routes.ensures c.ports-ports.ensures c.is_normal.ensures c.new_star_too_big.ensures)
