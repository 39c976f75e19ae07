use Rattle.pim_words.proofs.Words.{sym, ◌∙◌, map, false≢true, err_from_is_err_and, app_of, subcommand_rows_of}
use Rattle.pim_words.proofs.Offered.{given}
use Rattle.pim_words.proofs.Planned.{some_given}
use Rattle.pim_words.proofs.planning.matches_of.Goals as goal

pub returns-in_err-matches-clause-refused : goal.returns-in_err-matches-clause-refused
returns-in_err-matches-clause-refused g c =
    let p = err_from_is_err_and c.from_residual.result c.from_residual.ensures.1 in
    rw (p.1, p.2) (c.in_err-matches.ensures.kinds c.requires.offered.free)

pub returns-in_err-matches-clause-taken : goal.returns-in_err-matches-clause-taken
returns-in_err-matches-clause-taken g c =
    let p = err_from_is_err_and c.from_residual.result c.from_residual.ensures.1 in
    rw (p.1, p.2) c.in_err-matches.ensures.passes

pub returns-clause-met : goal.returns-clause-met
returns-clause-met g c = (c.in_ok-matches.ensures.matches c.requires.offered.simple).1

pub returns-clause-given : goal.returns-clause-given
returns-clause-given g c =
    let texts = map g.S.AsStr.text c.args.words.now in
    let met = (c.in_ok-matches.ensures.matches c.requires.offered.simple).1 in
    let none = c.in_ok-matches.ensures.kinds c.requires.offered.free in
    some_given (subcommand_rows_of c.in_ok-matches.matches) _ c.in-Some.ensures.rows (λ m e. given (app_of c.args.whole) texts m c.requires.offered none (sym met ∙ e))

pub returns-clause-refused : goal.returns-clause-refused
returns-clause-refused g c = c.in_ok-matches.ensures.kinds c.requires.offered.free

pub unreachable-requires : goal.unreachable-requires
unreachable-requires g c =
    let from = c.in_ok-matches.ensures.parsed in
    let parsed = from.parsed (from.from.globals ∙ c.requires.local) in
    let used = parsed.checked.subcommand (from.from.needs_subcommand ∙ c.requires.offered.required) in
    false≢true (c.in_default.ensures.variant ∙ used)
