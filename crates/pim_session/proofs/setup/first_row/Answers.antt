use Rattle.std.proofs.lemmas.Result.{err_from_is_err_and}
use Rattle.pim_session.proofs.Adding.{first_done, first_faulty}
use Rattle.pim_session.proofs.setup.first_row.Goals as goal

pub returns-in_err-add : goal.returns-in_err-add
returns-in_err-add g c =
    let p = err_from_is_err_and c.from_residual.result c.from_residual.ensures.1 in
    rw (p.1, p.2) (λ same. first_faulty g.F.Family.family g.F.Family.bytes_of c.args.row.now c.in_err-add.field-0.0 c.new-rows.result c.add.new.self c.new-rows.ensures.ports c.new-rows.ensures.routes same c.in_err-add.ensures)

pub returns : goal.returns
returns g c = λ same.
    first_done g.F.Family.family g.F.Family.bytes_of c.args.row.now c.new-rows.result c.add.new.self c.new-rows.ensures.ports c.new-rows.ensures.routes same c.in_ok-add.ensures
