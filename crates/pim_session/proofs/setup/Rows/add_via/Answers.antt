use Rattle.pim_session.specs.SetupSeen.{rows_seen}
use Rattle.pim_session.proofs.Capped.{via_told}
use Rattle.pim_session.proofs.setup.Rows.add_via.Goals as goal

pub returns : goal.returns
returns g c = λ fixed limit same.
    via_told g.F.Family.family c.args.row.now (rows_seen g.F.Family.bytes_of fixed limit c.args.self.now) same c.in-Some.ensures.within c.in-Some-of_family.ensures.within
    c.capped.result (g.F.Family.bytes_of c.in-Some.prefix) (g.F.Family.bytes_of c.in-Some-of_family.to) c.add_via.new.self c.add_via.result c.added.result
    c.capped.ensures c.in-Some.ensures.same c.in-Some-of_family.ensures.same c.add_via.ensures.ok c.add_via.ensures.err c.add_via.ensures.reported c.added.ensures
