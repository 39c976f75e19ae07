use Rattle.pim_files.proofs.Led.{if_none}
use Rattle.pim_files.proofs.Stated.{no_space, no_source, no_group, one_source}
use Rattle.pim_files.proofs.local.join.read_source.Goals as goal

pub returns-in_err-source-clause-unread : goal.returns-in_err-source-clause-unread
returns-in_err-source-clause-unread g c = if_none c.from_residual.result (no_space g.F.Family.family c.args.text.now c.in_err-source.ensures.cases)

pub returns-in_err-read_text-clause-unread : goal.returns-in_err-read_text-clause-unread
returns-in_err-read_text-clause-unread g c =
    if_none c.from_residual-in_err-read_text.result
    (no_source g.F.Family.family c.args.text.now c.in_ok-source.source c.in_ok-source.group c.in_ok-source.ensures.cases c.in_err-read_text.ensures.no_text)

pub returns-in_err-read_text-2-clause-unread : goal.returns-in_err-read_text-2-clause-unread
returns-in_err-read_text-2-clause-unread g c =
    if_none c.from_residual-in_err-read_text-2.result
    (no_group g.F.Family.family c.args.text.now c.in_ok-source.source c.in_ok-source.group c.in_ok-source.ensures.cases c.in_err-read_text-2.ensures.no_text)

pub returns-clause-only : goal.returns-clause-only
returns-clause-only g c =
    one_source g.F.Family.family c.args.text.now c.text_names_one_address.ensures c.in_ok-source.source c.in_ok-source.group
    (g.F.Family.bytes_of c.in_ok-read_text.field-0) (g.F.Family.bytes_of c.in_ok-read_text-2.field-0) c.in_ok-source.ensures.cases c.in_ok-read_text.ensures.named c.in_ok-read_text-2.ensures.named
