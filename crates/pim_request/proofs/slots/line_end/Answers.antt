use Rattle.pim_request.proofs.Faults.{too_many}
use Rattle.pim_request.specs.Steps.{words_left}
use Rattle.pim_request.proofs.slots.line_end.Goals as goal

pub returns-in-Some-clause-fault : goal.returns-in-Some-clause-fault
returns-in-Some-clause-fault c command = too_many c.in-Some.cut.word (words_left c.in-Some.cut.left) (words_left c.args.left) c.in-Some.ensures.word command
