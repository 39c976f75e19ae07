use Rattle.pim_router.proofs.Words.{rules, ◌≡◌, subst, IsRouteTable}
use Rattle.pim_router.proofs.Compared.{same_exactly}
use Rattle.pim_router.proofs.canonical.same_wants.Goals as goal

pub returns-clause-wants : goal.returns-clause-wants
returns-clause-wants g c =
    let tables : c.args.a.now.routes ≡ c.args.b.now.routes = search rules in
    let sound : IsRouteTable g.F.Family.family c.args.a.now.routes = subst (IsRouteTable g.F.Family.family) c.routes-3.ensures c.is_sound.ensures in
    let exactly = same_exactly g.F.Family.family c.args.writer.now c.args.a.now c.args.b.now c.in_ok-one.one c.in_ok-other.other
    c.same_messages_same_demand_toward.ensures sound c.is_writing.ensures tables c.in_ok-one.ensures.canonical c.in_ok-other.ensures.canonical in
    (λ same. exactly.0 (c.same_bytes.ensures.0 same), λ agree. c.same_bytes.ensures.1 (exactly.1 agree))
