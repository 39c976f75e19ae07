use Rattle.pim_addr.proofs.Words.{◌≡◌, ◌<◌, ℕ, List, map, ap, sym, ◌∙◌, arith, length, get_or, Option, insert, option_map}
use Rattle.pim_addr.proofs.Words.{length-map, Row, row_seen, answers_seen, before, answer_of, AreRanges, IsEnd, KeepAnswers}
use Rattle.std.proofs.lemmas.List.{get_or-map as get_or_of_map}
use Rattle.pim_addr.proofs.RangeEnds.{distinct_keys}
use Rattle.pim_addr.proofs.OneMoreEnd.{before_within, end_there, one_more_range, map_insert}
use Rattle.pim_addr.proofs.ranges.end_at.Goals as goal
use Rattle.pim_addr.proofs.ranges.end_at.Goals.{else-place-len-via-then-place-len+else-eq, else-place-len-via-else-place-len}

pub returns-then-eq-clause-end : goal.returns-then-eq-clause-end
returns-then-eq-clause-end g c =
    let number : ℕ = g.F.Family.value_of c.args.number in
    let ends : List ℕ = map g.F.Family.value_of c.args.ends.now.items in
    let at : c.ranges_before-place.result ≡ before number ends = c.ranges_before-place.ensures ∙ ap (λ ns. before number (map g.F.Family.value_of ns)) c.deref.ensures.value in
    let inside : c.ranges_before-place.result < length c.args.ends.now.items = omega (arith, c.if-place-len.true, c.len.ensures) in
    let same : g.F.Family.value_of c.index.result.now ≡ number = (g.met.F.Family.equality_of_numbers c.index.result.now c.args.number).0 (sym c.eq.ensures ∙ c.if-eq.true) in
    end_there number ends number (omega (arith, at, inside, length-map c.args.ends.now.items g.F.Family.value_of))
    (ap (λ i. get_or ends i number) (sym at) ∙ get_or_of_map g.F.Family.value_of c.args.ends.now.items c.ranges_before-place.result c.index.result.now number inside
    ∙ ap g.F.Family.value_of (sym c.index.ensures) ∙ same)

pub insert-requires : goal.insert-requires
insert-requires g c =
    let few = before_within (g.F.Family.value_of c.args.number) (map g.F.Family.value_of c.deref.result.now) in
    omega (arith, few, c.ranges_before-place.ensures, length-map c.deref.result.now g.F.Family.value_of, c.deref.ensures.len)

pub insert-requires-2 : goal.insert-requires-2
insert-requires-2 g c =
    let few = before_within (g.F.Family.value_of c.args.number) (map g.F.Family.value_of c.deref.result.now) in
    omega (
      arith,
      few,
      c.ranges_before-place.ensures,
      ap length c.deref.ensures.value,
      length-map c.deref.result.now g.F.Family.value_of,
      length-map c.args.ends.now.items g.F.Family.value_of,
      length-map c.args.answers.now.items (option_map (row_seen g.F.Family.bytes_of)),
      c.requires.ranges.paired,
    )

one_more : (g : _) (c : goal.Else-is_err-2 g) →
    let ends : List ℕ = map g.F.Family.value_of c.args.ends.now.items in
    let answers : List (Option Row) = answers_seen g.F.Family.bytes_of c.args.answers.now.items in
    let ends' : List ℕ = map g.F.Family.value_of c.insert.new.self.items in
    let answers' : List (Option Row) = answers_seen g.F.Family.bytes_of c.insert-2.new.self.items in
    AreRanges ends' answers' × IsEnd (g.F.Family.value_of c.args.number) ends' × KeepAnswers ends answers ends' answers'
one_more g c =
    let number : ℕ = g.F.Family.value_of c.args.number in
    let ends : List ℕ = map g.F.Family.value_of c.args.ends.now.items in
    let answers : List (Option Row) = answers_seen g.F.Family.bytes_of c.args.answers.now.items in
    let answer : Option Row = option_map (row_seen g.F.Family.bytes_of) c.answer_at-answer.result in
    let at : c.ranges_before-place.result ≡ before number ends = c.ranges_before-place.ensures ∙ ap (λ ns. before number (map g.F.Family.value_of ns)) c.deref.ensures.value in
    let ends_new : c.insert.new.self.items ≡ insert c.args.ends.now.items c.ranges_before-place.result c.args.number = rw c.if-is_err.ensures.negation at c.insert.ensures.items in
    let answers_new : c.insert-2.new.self.items ≡ insert c.args.answers.now.items c.ranges_before-place.result c.answer_at-answer.result = rw c.if-is_err-2.ensures.negation at c.insert-2.ensures.items in
    one_more_range ends answers number answer (map g.F.Family.value_of c.insert.new.self.items) (answers_seen g.F.Family.bytes_of c.insert-2.new.self.items) c.requires.ranges
    (c.answer_at-answer.ensures ∙ ap (λ ns. answer_of (map g.F.Family.value_of ns) (answers_seen g.F.Family.bytes_of c.deref-3.result.now) number) c.deref-2.ensures.value
    ∙ ap (λ rs. answer_of ends (answers_seen g.F.Family.bytes_of rs) number) c.deref-3.ensures.value)
    (λ within same. elim c.else-place-len.branch [
      | else-place-len-via-then-place-len+else-eq w ↦
          distinct_keys g.F.Family.value_of g.F.Number.PartialEq.eq g.met.F.Family.equality_of_numbers c.args.ends.now.items c.args.number w.index.result.now c.ranges_before-place.result at w.index.ensures
          (sym w.eq.ensures ∙ w.if-eq.false) within same
      | else-place-len-via-else-place-len w ↦
          absurd (omega (arith, at, within, w.if-place-len.false, c.len.ensures, length-map c.args.ends.now.items g.F.Family.value_of))
    ])
    (ap (map g.F.Family.value_of) ends_new ∙ map_insert g.F.Family.value_of c.args.ends.now.items c.ranges_before-place.result c.args.number ∙ ap (λ i. insert ends i number) at)
    (ap (answers_seen g.F.Family.bytes_of) answers_new ∙ map_insert (option_map (row_seen g.F.Family.bytes_of)) c.args.answers.now.items c.ranges_before-place.result c.answer_at-answer.result
    ∙ ap (λ i. insert answers i answer) at)

pub returns-clause-ranges : goal.returns-clause-ranges
returns-clause-ranges g c = (one_more g c).0

pub returns-clause-end : goal.returns-clause-end
returns-clause-end g c = (one_more g c).1

pub returns-clause-kept : goal.returns-clause-kept
returns-clause-kept g c = (one_more g c).2
