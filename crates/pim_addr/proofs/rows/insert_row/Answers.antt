use Rattle.pim_addr.proofs.Words.{◌≡◌, ◌∙◌, ◌+◌, ◌≤◌, List, map, length, ap, sym, subst, arith, insert, length-map, Row}
use Rattle.pim_addr.proofs.Words.{row_seen, rows_seen, answers_seen, Stand}
use Rattle.pim_addr.proofs.OneMoreEnd.{map_insert}
use Rattle.pim_addr.proofs.OneMoreRow.{one_more_stands}
use Rattle.pim_addr.proofs.rows.insert_row.Goals as goal

pub returns-clause-rows : goal.returns-clause-rows
returns-clause-rows g c =
    let new : c.insert.new.self.items ≡ insert c.args.rows.now.items c.args.place c.args.row = rw c.if-is_err.ensures.negation at c.insert.ensures.items in
    ap (rows_seen g.F.Family.bytes_of) new ∙ map_insert (row_seen g.F.Family.bytes_of) c.args.rows.now.items c.args.place c.args.row ∙ c.requires.gap.after (g.F.Family.bytes_of c.args.row.to)

pub returns-clause-stand : goal.returns-clause-stand
returns-clause-stand g c =
    let few : length c.answer_for.new.ends.items ≤ length c.args.ends.now.items + 2 = c.answer_for.ensures.few in
    subst (λ (rs : List Row). Stand g.F.Family.family rs (map g.F.Family.value_of c.answer_for.new.ends.items) (answers_seen g.F.Family.bytes_of c.answer_for.new.answers.items)) (sym (returns-clause-rows g c))
    (one_more_stands g.F.Family.family (rows_seen g.F.Family.bytes_of c.args.rows.now.items) (map g.F.Family.value_of c.args.ends.now.items) (answers_seen g.F.Family.bytes_of c.args.answers.now.items)
    (map g.F.Family.value_of c.answer_for.new.ends.items) (answers_seen g.F.Family.bytes_of c.answer_for.new.answers.items) (row_seen g.F.Family.bytes_of c.args.row) c.args.place c.requires.stand c.requires.gap c.requires.real
    (omega (arith, c.requires.few, length-map c.args.rows.now.items (row_seen g.F.Family.bytes_of))) c.answer_for.ensures.ranges
    (omega (arith, few, length-map c.args.ends.now.items g.F.Family.value_of, length-map c.answer_for.new.ends.items g.F.Family.value_of)) c.answer_for.ensures.answers)
