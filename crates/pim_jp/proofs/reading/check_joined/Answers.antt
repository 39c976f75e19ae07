use Rattle.std.proofs.Common.{[], false, refl}
use Rattle.pim_jp.proofs.EntryPass.{list_passes, list_stops, apart_from_none}
use Rattle.pim_jp.proofs.reading.check_joined.Goals as goal

pub returns-in-Ok-clause-passes : goal.returns-in-Ok-clause-passes
returns-in-Ok-clause-passes g c =
    list_passes g.F.Family.family c.args.count [] false c.args.at c.args.bytes.now refl c.in-Ok.ensures.clean
    (apart_from_none g.F.Family.family c.args.count c.args.bytes.now)

pub returns-in-Err-clause-stops : goal.returns-in-Err-clause-stops
returns-in-Err-clause-stops g c =
    rw c.fault_at.ensures
    (list_stops g.F.Family.family c.args.count [] false c.args.at c.args.bytes.now c.in-Err.stop.place c.in-Err.stop.kind refl c.in-Err.ensures.stop
    (apart_from_none g.F.Family.family c.in-Err.stop.place c.args.bytes.now))
