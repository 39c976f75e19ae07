use Rattle.pim_files.proofs.Words.{List, ℕ, subst, arith, err_from_is_err_and, lines_of}
use Rattle.pim_files.specs.LocalFile.{Adds}
use Rattle.pim_files.proofs.LineByLine.{Went, number_is_small, one_further}
use Rattle.pim_files.proofs.Joined.{adds_one_more, stopped}
use Rattle.pim_files.proofs.local.reading.join_lines.Goals as goal

pub overflow_add-number : goal.overflow_add-number
overflow_add-number g c =
    let went = subst (λ (left : List (List ℕ)). Went (Adds g.F.Family.family) (lines_of c.args.file.now) left c.args.joins.now c.loop-line.joins c.loop-line.number) c.in-Some.ensures.steps c.loop-line.invariant in
    omega (arith, number_is_small (Adds g.F.Family.family) c.args.file.now c.in-Some.line.now c.next.new.self c.args.joins.now c.loop-line.joins c.loop-line.number c.requires went)

pub loop-line-preserved : goal.loop-line-preserved
loop-line-preserved g c =
    let went = subst (λ (left : List (List ℕ)). Went (Adds g.F.Family.family) (lines_of c.args.file.now) left c.args.joins.now c.loop-line.joins c.loop-line.number) c.in-Some.ensures.steps c.loop-line.invariant in
    one_further (Adds g.F.Family.family) (lines_of c.args.file.now) c.in-Some.line.now c.next.new.self c.args.joins.now c.loop-line.joins c.join_line.new.joins c.loop-line.number went
    (adds_one_more g.F.Family.family went.front c.in-Some.line.now c.args.joins.now c.loop-line.joins c.join_line.new.joins went.added c.in_ok-join_line.ensures.ok)

pub returns-in_err-join_line-clause-reported : goal.returns-in_err-join_line-clause-reported
returns-in_err-join_line-clause-reported g c =
    let went = subst (λ (left : List (List ℕ)). Went (Adds g.F.Family.family) (lines_of c.args.file.now) left c.args.joins.now c.loop-line.joins c.loop-line.number) c.in-Some.ensures.steps c.loop-line.invariant in
    let p = err_from_is_err_and c.from_residual.result c.from_residual.ensures.1 in
    rw (p.1, p.2, c.in_err-join_line.ensures.err)
    (stopped g.F.Family.family (lines_of c.args.file.now) c.in-Some.line.now c.next.new.self c.args.joins.now c.loop-line.joins c.loop-line.number c.in_err-join_line.field-0.0 went c.in_err-join_line.ensures.reported)
