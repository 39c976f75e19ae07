use Rattle.pim_files.proofs.Words.{inr, subst, ap, err_from_is_err_and, RouteTable, IsFileFault, name_of, table_names}
use Rattle.pim_files.proofs.Asked.{asks_no_names}
use Rattle.pim_files.proofs.route_table.table.Goals as goal

pub returns-in_default-clause-requested : goal.returns-in_default-clause-requested
returns-in_default-clause-requested g c =
    asks_no_names (g.O.Opener.known c.args.opener.now) (table_names c.args.captures.now) c.first_rows.result (ap name_of c.in_default.is)

pub returns-in_err-add_file-clause-table : goal.returns-in_err-add_file-clause-table
returns-in_err-add_file-clause-table g c =
    let p = err_from_is_err_and c.from_residual-in_err-add_file.result c.from_residual-in_err-add_file.ensures.1 in
    rw (p.1, p.2, c.in-Some.is)
    (inr (
      c.in_ok-routes.ensures.0,
      subst (λ (t : RouteTable). IsFileFault g.F.Family.family g.O.Reader.Feed.remaining g.O.Reader.Feed.failures
          (g.O.Opener.known c.args.opener.now).files c.in-Some.name.now t c.in_err-add_file.field-0.0) c.in_ok-routes.ensures.1 c.in_err-add_file.ensures.rows,
    ))
