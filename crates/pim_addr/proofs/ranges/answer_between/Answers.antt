use Rattle.pim_addr.proofs.Words.{◌≡◌, ◌∙◌, ◌+◌, ◌-◌, ◌++◌, ℕ, suc, List, Option, Some, map, take, drop, ap, sym, arith}
use Rattle.pim_addr.proofs.Words.{length-map, map-append, take-map, drop-map, option_map, Row, longer_of, IsEnd}
use Rattle.pim_addr.proofs.Words.{row_seen, answers_seen}
use Rattle.pim_addr.proofs.OneMoreEnd.{before_within, before_rises}
use Rattle.pim_addr.proofs.AnswersOver.{answers_between}
use Rattle.pim_addr.proofs.ranges.answer_between.Goals as goal

pub split_at_mut-from_first-requires : goal.split_at_mut-from_first-requires
split_at_mut-from_first-requires g c =
    let few = before_within (g.F.Family.value_of c.args.first) (map g.F.Family.value_of c.args.ends.now) in
    omega (arith, few, c.ranges_before-first_place.ensures, c.requires.ranges.paired, length-map c.args.answers.now (option_map (row_seen g.F.Family.bytes_of)))

pub overflow_add-last_place : goal.overflow_add-last_place
overflow_add-last_place g c =
    let few = before_within (g.F.Family.value_of c.args.last) (map g.F.Family.value_of c.args.ends.now) in
    omega (arith, few, c.ranges_before-last_place.ensures, c.requires.small, length-map c.args.ends.now g.F.Family.value_of)

pub overflow_sub-last_place : goal.overflow_sub-last_place
overflow_sub-last_place g c =
    let order = before_rises (g.F.Family.value_of c.args.first) (g.F.Family.value_of c.args.last) (map g.F.Family.value_of c.args.ends.now) c.requires.order in
    omega (arith, c.ranges_before-first_place.ensures, c.ranges_before-last_place.ensures, order)

pub split_at_mut-between-requires : goal.split_at_mut-between-requires
split_at_mut-between-requires g c =
    let end : IsEnd (g.F.Family.value_of c.args.last) (map g.F.Family.value_of c.args.ends.now) = c.requires.end in
    let few = before_within (suc (g.F.Family.value_of c.args.last)) (map g.F.Family.value_of c.args.ends.now) in
    omega (arith, end, few, c.split_at_mut-from_first.ensures.back_len, c.ranges_before-last_place.ensures, c.requires.ranges.paired, length-map c.args.answers.now (option_map (row_seen g.F.Family.bytes_of)))

pub returns-clause-answers : goal.returns-clause-answers
returns-clause-answers g c =
    let seen = option_map (row_seen g.F.Family.bytes_of) in
    let old : List (Option Row) = answers_seen g.F.Family.bytes_of c.args.answers.now in
    let row : Row = row_seen g.F.Family.bytes_of c.args.row in
    let place : ℕ = c.ranges_before-first_place.result in
    let count : ℕ = c.ranges_before-last_place.result + 1 - place in
    let front : map seen c.split_at_mut-from_first.result.0.now ≡ take place old = ap (map seen) c.split_at_mut-from_first.ensures.front ∙ sym (take-map seen place c.args.answers.now) in
    let others : map seen c.split_at_mut-from_first.result.1.now ≡ drop place old = ap (map seen) c.split_at_mut-from_first.ensures.back ∙ sym (drop-map seen place c.args.answers.now) in
    let between : map seen c.split_at_mut-between.result.0.now ≡ take count (drop place old) =
    ap (map seen) c.split_at_mut-between.ensures.front ∙ sym (take-map seen count c.split_at_mut-from_first.result.1.now) ∙ ap (take count) others in
    let behind : map seen c.split_at_mut-between.result.1.now ≡ drop count (drop place old) =
    ap (map seen) c.split_at_mut-between.ensures.back ∙ sym (drop-map seen count c.split_at_mut-from_first.result.1.now) ∙ ap (drop count) others in
    let changed : map seen c.answer_in_all.new.answers ≡ map (λ answer. Some (longer_of row answer)) (take count (drop place old)) =
    c.answer_in_all.ensures ∙ ap (map (λ answer. Some (longer_of row answer))) between in
    answers_between (map g.F.Family.value_of c.args.ends.now) old _ (g.F.Family.value_of c.args.first) (g.F.Family.value_of c.args.last) place count row c.requires.ranges.paired c.requires.order c.requires.start c.requires.end
    c.ranges_before-first_place.ensures (λ i. c.ranges_before-last_place.ensures i + 1 - c.ranges_before-first_place.ensures i)
    (map-append seen c.split_at_mut-from_first.result.0.now (c.answer_in_all.new.answers ++ c.split_at_mut-between.result.1.now)
    ∙ (λ i. front i ++ (map-append seen c.answer_in_all.new.answers c.split_at_mut-between.result.1.now ∙ (λ j. changed j ++ behind j)) i))
