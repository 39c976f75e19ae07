use Rattle.pim_files.proofs.Led.{if_none, no_slash, no_space, is_cut, no_prefix, no_length, no_to, one_row}
use Rattle.pim_files.proofs.routes.row.read_led.Goals as goal

pub returns-in_err-prefix-clause-unread : goal.returns-in_err-prefix-clause-unread
returns-in_err-prefix-clause-unread g c = if_none c.from_residual.result (no_slash g.F.Family.family c.args.text.now c.in_err-prefix.ensures.cases)

pub returns-in_err-length-clause-unread : goal.returns-in_err-length-clause-unread
returns-in_err-length-clause-unread g c =
    if_none c.from_residual-in_err-length.result
    (no_space g.F.Family.family c.args.text.now c.in_ok-prefix.prefix c.in_ok-prefix.behind c.in_ok-prefix.ensures.cases c.in_err-length.ensures.cases)

pub returns-in_err-read_text-clause-unread : goal.returns-in_err-read_text-clause-unread
returns-in_err-read_text-clause-unread g c =
    let cut =
    is_cut g.F.Family.family c.args.text.now c.in_ok-prefix.prefix c.in_ok-prefix.behind c.in_ok-length.length c.in_ok-length.to c.in_ok-prefix.ensures.cases c.in_ok-length.ensures.cases in
    if_none c.from_residual-in_err-read_text.result
    (no_prefix g.F.Family.family c.args.text.now c.in_ok-prefix.prefix.now c.in_ok-length.length.now c.in_ok-length.to.now cut c.in_err-read_text.ensures.no_text)

pub returns-in_err-read_length-clause-unread : goal.returns-in_err-read_length-clause-unread
returns-in_err-read_length-clause-unread g c =
    let cut =
    is_cut g.F.Family.family c.args.text.now c.in_ok-prefix.prefix c.in_ok-prefix.behind c.in_ok-length.length c.in_ok-length.to c.in_ok-prefix.ensures.cases c.in_ok-length.ensures.cases in
    if_none c.from_residual-in_err-read_length.result
    (no_length g.F.Family.family c.args.text.now c.in_ok-prefix.prefix.now c.in_ok-length.length.now c.in_ok-length.to.now cut c.in_err-read_length.ensures.unread)

pub returns-in_err-read_text-2-clause-unread : goal.returns-in_err-read_text-2-clause-unread
returns-in_err-read_text-2-clause-unread g c =
    let cut =
    is_cut g.F.Family.family c.args.text.now c.in_ok-prefix.prefix c.in_ok-prefix.behind c.in_ok-length.length c.in_ok-length.to c.in_ok-prefix.ensures.cases c.in_ok-length.ensures.cases in
    if_none c.from_residual-in_err-read_text-2.result
    (no_to g.F.Family.family c.args.text.now c.in_ok-prefix.prefix.now c.in_ok-length.length.now c.in_ok-length.to.now cut c.in_err-read_text-2.ensures.no_text)

pub returns-clause-only : goal.returns-clause-only
returns-clause-only g c =
    let cut =
    is_cut g.F.Family.family c.args.text.now c.in_ok-prefix.prefix c.in_ok-prefix.behind c.in_ok-length.length c.in_ok-length.to c.in_ok-prefix.ensures.cases c.in_ok-length.ensures.cases in
    one_row g.F.Family.family c.args.text.now c.text_names_one_address.ensures c.in_ok-prefix.prefix.now c.in_ok-length.length.now c.in_ok-length.to.now
    (g.F.Family.bytes_of c.in_ok-read_text.field-0) (g.F.Family.bytes_of c.in_ok-read_text-2.field-0) c.in_ok-read_length.field-0 cut c.in_ok-read_text.ensures.named c.in_ok-read_length.ensures.read
    c.in_ok-read_text-2.ensures.named
