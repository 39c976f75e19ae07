use Rattle.pim_request.proofs.Cited.{name, IsFault, comparison_forms, writing_forms, words_left}
use Rattle.pim_request.proofs.Faults.{reported, at_each, step}
use Rattle.pim_request.proofs.commands.read_comparison.Goals as goal

pub returns-in_err-cut-clause-fault : goal.returns-in_err-cut-clause-fault
returns-in_err-cut-clause-fault c =
    reported (IsFault comparison_forms c.args.command.now (words_left c.args.left)) c.in_err-cut.field-0.0 c.from_residual.result c.from_residual.ensures.1
    (at_each name writing_forms tt c.args.command.now (words_left c.args.left) c.in_err-cut.field-0.0 c.in_err-cut.ensures.fault)

pub returns-in_err-writing-clause-fault : goal.returns-in_err-writing-clause-fault
returns-in_err-writing-clause-fault c =
    reported (IsFault comparison_forms c.args.command.now (words_left c.args.left)) c.in_err-writing.field-0.0 c.from_residual-in_err-writing.result c.from_residual-in_err-writing.ensures.1
    (step name writing_forms c.args.command.now c.in_ok-cut.cut.word.now (words_left c.in_ok-cut.cut.left) (words_left c.args.left) c.in_err-writing.field-0.0 c.in_ok-cut.ensures.read c.in_ok-cut.ensures.some c.in_err-writing.ensures.fault)
