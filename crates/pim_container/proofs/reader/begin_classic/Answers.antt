use Rattle.pim_container.proofs.Words.{List, ℕ, subst, err_from_is_err_and, Answers, ClassicFormat, judge_header}
use Rattle.pim_container.proofs.Beginnings.{header_known}
use Rattle.pim_container.proofs.Taken.{takes_passed, takes_result}
use Rattle.pim_container.proofs.reader.begin_classic.Goals as goal

pub returns-clause-answer : goal.returns-clause-answer
returns-clause-answer g c =
    let P : List ℕ → Type 0 = λ bytes. Answers (λ it. it) c.read_header.result (judge_header bytes) in
    header_known c.args.head.now c.read_after.new.buffer.items (g.R.Feed.remaining c.args.device.now) (g.R.Feed.remaining c.read_after.new.device) c.read_header.result
    c.in_ok-read_after.ensures.answer (subst P c.as_slice.ensures.value c.read_header.ensures.answer)

pub returns-in_err-read_after-clause-taken : goal.returns-in_err-read_after-clause-taken
returns-in_err-read_after-clause-taken g c =
    let p = err_from_is_err_and c.from_residual.result c.from_residual.ensures.1 in
    rw (p.1, p.2) (takes_passed (Unit {0}) ClassicFormat 24 c.in_err-read_after.field-0.0 _ _ c.in_err-read_after.ensures.taken)

pub returns-clause-taken : goal.returns-clause-taken
returns-clause-taken g c = takes_result 24 c.read_header.result _ _ c.in_ok-read_after.ensures.taken
