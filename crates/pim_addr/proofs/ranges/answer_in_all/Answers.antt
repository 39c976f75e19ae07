use Rattle.pim_addr.proofs.Words.{◌≡◌, ◌<◌, ◌∙◌, ℕ, List, Option, Some, None, length, get_or, set, ap, sym, arith}
use Rattle.pim_addr.proofs.Words.{add-one, option_map, length-map, Row, longer_of, row_seen, answers_seen}
use Rattle.std.proofs.lemmas.List.{get_or-map as get_or_of_map}
use Rattle.pim_addr.proofs.AnswersOver.{changed, changed_none, changed_at, changed_more, changed_all, map_set}
use Rattle.pim_addr.proofs.ranges.answer_in_all.Goals as goal

pub loop-answer-init : goal.loop-answer-init
loop-answer-init g c = changed_none _ (answers_seen g.F.Family.bytes_of c.args.answers.now)

pub loop-answer-preserved : goal.loop-answer-preserved
loop-answer-preserved g c =
    let bytes_of = g.F.Family.bytes_of in
    let row : Row = row_seen bytes_of c.args.row in
    let i : ℕ = c.loop-answer.answer-index in
    let items = c.loop-answer.answer-items in
    let old : List (Option Row) = answers_seen bytes_of c.args.answers.now in
    let same : length items ≡ length c.args.answers.now = c.loop-answer.auto.answer-items in
    let inside : i < length items = omega (arith, c.loop-answer-test.true, same) in
    let within : i < length old = omega (arith, inside, same, length-map c.args.answers.now (option_map (row_seen bytes_of))) in
    let held : option_map (row_seen bytes_of) (get_or items i c.answer-item.result) ≡ get_or old i None =
    sym (get_or_of_map (option_map (row_seen bytes_of)) items i c.answer-item.result None inside)
    ∙ ap (λ xs. get_or xs i None) c.loop-answer.invariant ∙ changed_at _ i old None in
    map_set (option_map (row_seen bytes_of)) items i (Some c.longer.result)
    ∙ ap (λ (r : Row). set (answers_seen bytes_of items) i (Some r)) (c.longer.ensures ∙ ap (longer_of row) held)
    ∙ ap (λ xs. set xs i (Some (longer_of row (get_or old i None)))) c.loop-answer.invariant ∙ changed_more (λ answer. Some (longer_of row answer)) i old None within
    ∙ ap (λ n. changed (λ answer. Some (longer_of row answer)) n old) (sym (add-one i))

pub returns : goal.returns
returns g c = c.loop-answer.invariant ∙ changed_all _ c.loop-answer.answer-index (answers_seen g.F.Family.bytes_of c.args.answers.now)
    (omega (arith, c.loop-answer-test.false, length-map c.args.answers.now (option_map (row_seen g.F.Family.bytes_of))))
