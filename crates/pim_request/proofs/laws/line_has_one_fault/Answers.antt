use Rattle.pim_request.proofs.OneFault.{one_words_fault}
use Rattle.pim_request.proofs.WordsOf.{no_words_fault}
use Rattle.pim_request.proofs.laws.line_has_one_fault.Goals as goal

pub returns-clause-one : goal.returns-clause-one
returns-clause-one c = one_words_fault

pub returns-clause-none : goal.returns-clause-none
returns-clause-none c = no_words_fault
