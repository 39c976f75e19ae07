use Rattle.pim_commands.proofs.Words.{config_faults, setup_seen, Setup, new_router}
use Rattle.pim_commands.proofs.NewRouters.{made_is, unmade_is}
use Rattle.pim_commands.proofs.routers.router_of.Goals as goal

pub returns-in-Ok : goal.returns-in-Ok
returns-in-Ok g c =
    let setup : Setup = setup_seen g.F.Family.bytes_of c.args.ports.now c.args.routes.now c.args.limit in
    made_is (config_faults g.F.Family.family setup) (new_router setup) c.in-Ok.router c.in-Ok.ensures

pub returns-in-Err : goal.returns-in-Err
returns-in-Err g c =
    let setup : Setup = setup_seen g.F.Family.bytes_of c.args.ports.now c.args.routes.now c.args.limit in
    rw (c.config_fault.ensures) (unmade_is (config_faults g.F.Family.family setup) (new_router setup) c.in-Err.fault c.in-Err.ensures)
