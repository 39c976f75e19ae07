use Rattle.pim_request.proofs.OneFault.{one_sender_fault}
use Rattle.pim_request.proofs.WordsOf.{no_fault_of_sender}
use Rattle.pim_request.proofs.laws.sender_has_one_fault.Goals as goal

pub returns-clause-one : goal.returns-clause-one
returns-clause-one c = one_sender_fault

pub returns-clause-none : goal.returns-clause-none
returns-clause-none c = no_fault_of_sender
