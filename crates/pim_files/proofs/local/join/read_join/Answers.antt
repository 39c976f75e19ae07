use Rattle.std.proofs.Common.{codes, sym, ◌∙◌}
use Rattle.std.proofs.lemmas.Option.{IfSome_then}
use Rattle.pim_local.specs.Seen.{join_seen}
use Rattle.pim_files.proofs.Led.{if_none}
use Rattle.pim_files.proofs.Spelled.{stripped}
use Rattle.pim_files.proofs.Stated.{none_found, no_text, unread_star, unread_source, only_star, only_source}
use Rattle.pim_files.proofs.local.join.read_join.Goals as goal

pub returns-in_default-clause-unread : goal.returns-in_default-clause-unread
returns-in_default-clause-unread g c = no_text g.F.Family.family c.args.line.now c.in_default.ensures.cases.0

pub returns-in_err-read_text-clause-unread : goal.returns-in_err-read_text-clause-unread
returns-in_err-read_text-clause-unread g c =
    if_none c.from_residual.result
    (unread_star g.F.Family.family c.args.line.now c.in-Some.group.now (sym c.in-Ok.ensures.cases.0 ∙ stripped (codes "star ") c.in-Ok.line.now c.in-Some.group.now c.in-Some.ensures.cases) c.in_err-read_text.ensures.no_text)

pub returns-in-Some-clause-only : goal.returns-in-Some-clause-only
returns-in-Some-clause-only g c =
    only_star g.F.Family.family c.args.line.now c.text_names_one_address.ensures c.in-Some.group.now (g.F.Family.bytes_of c.in_ok-read_text.field-0)
    (sym c.in-Ok.ensures.cases.0 ∙ stripped (codes "star ") c.in-Ok.line.now c.in-Some.group.now c.in-Some.ensures.cases) c.in_ok-read_text.ensures.named

pub returns-clause-only : goal.returns-clause-only
returns-clause-only g c =
    let spelled = sym c.in-Ok.ensures.cases.0 ∙ stripped (codes "source ") c.in-Ok.line.now c.in_ok-text.text.now c.in_ok-text.ensures.cases in
    IfSome_then c.read_source.result c.read_source.ensures.only (λ held only. only_source g.F.Family.family c.args.line.now c.in_ok-text.text.now (join_seen g.F.Family.bytes_of held) spelled only)

pub returns-clause-unread : goal.returns-clause-unread
returns-clause-unread g c =
    let spelled = sym c.in-Ok.ensures.cases.0 ∙ stripped (codes "source ") c.in-Ok.line.now c.in_ok-text.text.now c.in_ok-text.ensures.cases in
    none_found c.read_source.result (unread_source g.F.Family.family c.args.line.now c.in_ok-text.text.now spelled) c.read_source.ensures.unread
