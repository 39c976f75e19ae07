use Rattle.pim_files.proofs.Words.{inl, err_from_is_err_and, files_from}
use Rattle.pim_files.proofs.AllOpen.{same_files}
use Rattle.pim_files.proofs.LocalOpen.{table_asked, joins_asked, no_joins, no_port_after, port_asked_after, is_open_after}
use Rattle.pim_files.proofs.opening.open_with_local.Goals as goal

pub returns-in_err-routes-clause-unopened : goal.returns-in_err-routes-clause-unopened
returns-in_err-routes-clause-unopened g c =
    let p = err_from_is_err_and c.from_residual.result c.from_residual.ensures.1 in
    rw (p.1, p.2) (inl c.in_err-routes.ensures.table)

pub returns-in_err-routes-clause-requested : goal.returns-in_err-routes-clause-requested
returns-in_err-routes-clause-requested g c =
    let p = err_from_is_err_and c.from_residual.result c.from_residual.ensures.1 in
    let known = g.O.Opener.known c.args.opener.now in
    let middle = g.O.Opener.known c.table.new.opener in
    rw (p.1)
    (table_asked g.F.Family.family g.F.Family.bytes_of g.O.Reader.Feed.remaining g.O.Reader.Feed.failures known middle middle middle c.args.captures.now c.args.upstream c.args.name c.in_err-routes.ensures.requested)

pub returns-in_err-local-clause-unopened : goal.returns-in_err-local-clause-unopened
returns-in_err-local-clause-unopened g c =
    let p = err_from_is_err_and c.from_residual-in_err-local.result c.from_residual-in_err-local.ensures.1 in
    let known = g.O.Opener.known c.args.opener.now in
    let middle = g.O.Opener.known c.table.new.opener in
    let later = g.O.Opener.known c.local_joins.new.opener in
    rw (p.1, p.2)
    (no_joins g.F.Family.family g.F.Family.bytes_of g.O.Reader.Feed.remaining g.O.Reader.Feed.failures known middle later later c.args.captures.now c.args.upstream c.args.name c.in_ok-routes.routes
    c.in_err-local.field-0.0 c.in_ok-routes.ensures.table c.in_ok-routes.ensures.requested c.in_err-local.ensures.joins)

pub returns-in_err-local-clause-requested : goal.returns-in_err-local-clause-requested
returns-in_err-local-clause-requested g c =
    let p = err_from_is_err_and c.from_residual-in_err-local.result c.from_residual-in_err-local.ensures.1 in
    let known = g.O.Opener.known c.args.opener.now in
    let middle = g.O.Opener.known c.table.new.opener in
    let later = g.O.Opener.known c.local_joins.new.opener in
    rw (p.1)
    (joins_asked g.F.Family.family g.F.Family.bytes_of g.O.Reader.Feed.remaining g.O.Reader.Feed.failures known middle later later c.args.captures.now c.args.upstream c.args.name
    c.in_ok-routes.ensures.requested c.in_err-local.ensures.requested)

pub returns-in_err-merge-clause-unopened : goal.returns-in_err-merge-clause-unopened
returns-in_err-merge-clause-unopened g c =
    let all = files_from 0 c.deref-2.result.now c.deref.result.now in
    let same = same_files c.deref-2.result.now c.args.captures.now.more.items c.deref.result.now c.args.captures.now.ports.items c.deref-2.ensures.value c.deref.ensures.value in
    let p = err_from_is_err_and c.from_residual-in_err-merge.result c.from_residual-in_err-merge.ensures.1 in
    let known = g.O.Opener.known c.args.opener.now in
    let middle = g.O.Opener.known c.table.new.opener in
    let later = g.O.Opener.known c.local_joins.new.opener in
    let last = g.O.Opener.known c.open_all.new.opener in
    rw (p.1, p.2)
    (no_port_after g.F.Family.family g.F.Family.bytes_of g.O.Reader.Feed.remaining g.O.Reader.Feed.failures known middle later last c.args.captures.now c.args.upstream c.args.name
    c.in_ok-routes.routes c.in_ok-local.local all same c.in_ok-routes.ensures.table c.in_ok-routes.ensures.requested c.in_ok-local.ensures.joins c.in_ok-local.ensures.requested
    c.in_err-merge.field-0.0 c.in_err-merge.ensures.fault)

pub returns-in_err-merge-clause-requested : goal.returns-in_err-merge-clause-requested
returns-in_err-merge-clause-requested g c =
    let all = files_from 0 c.deref-2.result.now c.deref.result.now in
    let same = same_files c.deref-2.result.now c.args.captures.now.more.items c.deref.result.now c.args.captures.now.ports.items c.deref-2.ensures.value c.deref.ensures.value in
    let p = err_from_is_err_and c.from_residual-in_err-merge.result c.from_residual-in_err-merge.ensures.1 in
    let known = g.O.Opener.known c.args.opener.now in
    let middle = g.O.Opener.known c.table.new.opener in
    let later = g.O.Opener.known c.local_joins.new.opener in
    let last = g.O.Opener.known c.open_all.new.opener in
    rw (p.1)
    (port_asked_after g.F.Family.family g.F.Family.bytes_of g.O.Reader.Feed.remaining g.O.Reader.Feed.failures known middle later last c.args.captures.now c.args.upstream c.args.name
    c.in_ok-routes.routes c.in_ok-local.local all same c.in_ok-routes.ensures.table c.in_ok-routes.ensures.requested c.in_ok-local.ensures.joins c.in_ok-local.ensures.requested
    c.in_err-merge.ensures.requested)

pub returns-clause-opened : goal.returns-clause-opened
returns-clause-opened g c =
    let all = files_from 0 c.deref-2.result.now c.deref.result.now in
    let same = same_files c.deref-2.result.now c.args.captures.now.more.items c.deref.result.now c.args.captures.now.ports.items c.deref-2.ensures.value c.deref.ensures.value in
    let known = g.O.Opener.known c.args.opener.now in
    let middle = g.O.Opener.known c.table.new.opener in
    let later = g.O.Opener.known c.local_joins.new.opener in
    let last = g.O.Opener.known c.open_all.new.opener in
    is_open_after g.F.Family.family g.F.Family.bytes_of g.O.Reader.Feed.remaining g.O.Reader.Feed.failures known middle later last c.args.captures.now c.args.upstream c.args.name
    c.in_ok-routes.routes c.in_ok-local.local all same c.in_ok-routes.ensures.table c.in_ok-routes.ensures.requested c.in_ok-local.ensures.joins c.in_ok-local.ensures.requested
    c.in_ok-merge.merge c.deref.result.now c.deref.ensures.value c.in_ok-merge.ensures.each c.in_ok-merge.ensures.untaken c.in_ok-merge.ensures.opened c.in_ok-merge.ensures.requested
