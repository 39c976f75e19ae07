use Rattle.pim_words.proofs.Words.{sym, subst, MatchResult, Text, found_of, rows_of, IsPlanOf, IsWrongOf}
use Rattle.std.specs.Box.{box_value}
use Rattle.clap.specs.declared.parser.matches.ArgMatches.TheViews.{out-ArgMatches, out-SubCommand}
use Rattle.pim_words.proofs.Planned.{of_met}
use Rattle.pim_words.proofs.planning.plan_met.Goals as goal

pub returns : goal.returns
returns c =
    let rows = rows_of (found_of c.in-Some.options.now) in
    of_met (λ b. (out-SubCommand (box_value b)).name.now) (λ b. rows_of (found_of (out-SubCommand (box_value b)).matches)) (out-ArgMatches c.args.matches.now).subcommand c.in-Some.name.now rows
    c.in-Some.ensures.name c.in-Some.ensures.rows c.plan_kind.result
    (subst (λ (name : Text). MatchResult c.plan_kind.result (IsPlanOf (name, rows)) (IsWrongOf (name, rows))) (sym c.in-Some-read_kind.ensures) c.plan_kind.ensures)
