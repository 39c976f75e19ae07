use Rattle.pim_request.proofs.Cited.{IsFault, option_forms, words_left}
use Rattle.pim_request.proofs.Faults.{reported}
use Rattle.pim_request.proofs.Options.{wrong_holdtime, wrong_budget, are_options}
use Rattle.pim_request.proofs.tails.last_options.Goals as goal

pub returns-in_err-holdtime-clause-fault : goal.returns-in_err-holdtime-clause-fault
returns-in_err-holdtime-clause-fault c =
    reported (IsFault option_forms c.args.command.now (words_left c.args.left)) c.in_err-holdtime.field-0.0 c.from_residual.result c.from_residual.ensures.1
    (wrong_holdtime c.args.command.now c.in_err-holdtime.field-0.0 (words_left c.args.left) c.in_err-holdtime.ensures.fault)

pub returns-in_err-budget-clause-fault : goal.returns-in_err-budget-clause-fault
returns-in_err-budget-clause-fault c =
    reported (IsFault option_forms c.args.command.now (words_left c.args.left)) c.in_err-budget.field-0.0 c.from_residual-in_err-budget.result c.from_residual-in_err-budget.ensures.1
    (wrong_budget c.args.command.now c.in_err-budget.field-0.0 c.in_ok-holdtime.holdtime.number (words_left c.args.left) (words_left c.in_ok-holdtime.holdtime.left) c.in_ok-holdtime.ensures.read c.in_err-budget.ensures.fault)

pub returns-clause-read : goal.returns-clause-read
returns-clause-read c = are_options c.in_ok-holdtime.holdtime.number c.in_ok-budget.budget (words_left c.args.left) (words_left c.in_ok-holdtime.holdtime.left) c.in_ok-holdtime.ensures.read c.in_ok-budget.ensures.read
