use Rattle.std.proofs.Common.{List, ℕ, take, subst, arith}
use Rattle.pim_addr.specs.Faults.{Answers}
use Rattle.pim_capture.specs.Header.{judge_header}
use Rattle.pim_capture.proofs.Known.{header_known}
use Rattle.std.proofs.lemmas.List.{length-take-le}
use Rattle.pim_capture.proofs.Taken.{front_taken}
use Rattle.pim_capture.proofs.record.begin.Goals as goal

pub returns-clause-answer : goal.returns-clause-answer
returns-clause-answer g c =
    let P : List ℕ → Type 0 = λ header. Answers (λ format. format) c.read_header.result (judge_header header) in
    header_known _ _ c.read_up_to.new.buffer c.in_ok-got.got c.read_header.result (omega arith)
    c.in_ok-got.ensures.bound c.in_ok-got.ensures.bytes c.in_ok-got.ensures.end
    (subst P c.split_at.ensures.front c.read_header.ensures.answer) c.read_header.ensures.bytes

pub returns-clause-taken : goal.returns-clause-taken
returns-clause-taken g c =
    front_taken 24 _ _ (take c.in_ok-got.got c.read_up_to.new.buffer) c.in_ok-got.ensures.bytes
    (omega (arith, length-take-le c.in_ok-got.got c.read_up_to.new.buffer c.in_ok-got.ensures.bound))
