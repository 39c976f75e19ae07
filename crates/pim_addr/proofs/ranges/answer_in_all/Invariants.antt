use Rattle.pim_addr.proofs.Words.{◌≡◌, Some, longer_of, row_seen, answers_seen}
use Rattle.pim_addr.proofs.AnswersOver.{changed}
use Rattle.pim_addr.proofs.ranges.answer_in_all.Given as goal

abbrev pub invariant-loop-answer : goal.invariant-loop-answer
invariant-loop-answer g l =
    answers_seen g.F.Family.bytes_of l.answer-items ≡ changed (λ answer. Some (longer_of (row_seen g.F.Family.bytes_of l.row) answer)) l.answer-index (answers_seen g.F.Family.bytes_of l.fn.answers)
