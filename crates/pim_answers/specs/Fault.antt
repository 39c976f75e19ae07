-- Faults, as the code keeps them. No public clause names them.
use Rattle.std.specs.Prelude.{ℕ, List, [], ◌++◌, Result, Ok, Err}
use Rattle.pim_lines.specs.Pieces.{number_or}
use Rattle.pim_answers.specs.declared.fault.AnswerFault.{AnswerFault}
use Rattle.pim_answers.specs.Lines.{ok_line, fault_line}

-- The words of a fault, with the bytes or the number that they name.
abbrev pub fault_words : AnswerFault → List ℕ
fault_words fault = fault.words.now ++ (fault.name.now ++ number_or [] fault.number)

-- The line of a command that was done, or refused by this fault.
abbrev pub done_text : {A : Type 0} → Result A AnswerFault → List ℕ
done_text (Ok done) = ok_line
done_text (Err fault) = fault_line (fault_words fault)
