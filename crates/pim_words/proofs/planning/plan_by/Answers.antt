use Rattle.std.specs.Prelude.{map}
use Rattle.pim_words.proofs.Words.{sym, app_of, subcommand_rows_of}
use Rattle.pim_words.proofs.Planned.{planned}
use Rattle.pim_words.proofs.Refusals.{caused}
use Rattle.pim_words.proofs.planning.plan_by.Goals as goal

pub returns-in-Err : goal.returns-in-Err
returns-in-Err g c =
    rw c.refusal_fault.ensures
    (caused (app_of c.args.whole) (map g.S.AsStr.text c.args.words.now) c.in-Err.error c.kind.result c.format.result (sym c.kind.ensures) c.in-Err.ensures.refused c.in-Err.ensures.taken)

pub returns : goal.returns
returns g c =
    planned (app_of c.args.whole) (map g.S.AsStr.text c.args.words.now) c.in-Ok.ensures.refused (subcommand_rows_of c.in-Ok.matches) c.plan_met.result c.in-Ok.ensures.met c.plan_met.ensures
