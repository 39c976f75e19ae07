use Rattle.pim_form.proofs.Words.{◌≤◌, ◌≡◌, ◌∙◌, sym, arith, false, Writing, has_bad_address}
use Rattle.pim_form.specs.Seen.{writing_seen}
use Rattle.pim_form.proofs.Writers.{address_told, holdtime_told, budget_told, taken, is_writing}
use Rattle.pim_form.proofs.writer.Writer.new.Goals as goal

pub returns-then-has_bad_address : goal.returns-then-has_bad_address
returns-then-has_bad_address g c =
    let writing : Writing = writing_seen g.F.Family.bytes_of c.args.upstream c.args.own c.args.holdtime c.args.budget in
    address_told g.F.Family.family writing _ (sym (c.has_bad_address.ensures c.args.holdtime c.args.budget) ∙ c.if-has_bad_address.true)

pub returns-then-holdtime-lt-LEAST_HOLDTIME : goal.returns-then-holdtime-lt-LEAST_HOLDTIME
returns-then-holdtime-lt-LEAST_HOLDTIME g c =
    let writing : Writing = writing_seen g.F.Family.bytes_of c.args.upstream c.args.own c.args.holdtime c.args.budget in
    holdtime_told g.F.Family.family writing _ (sym (c.has_bad_address.ensures c.args.holdtime c.args.budget) ∙ c.if-has_bad_address.false) (omega arith)

pub returns-then-budget-lt-LEAST_BUDGET : goal.returns-then-budget-lt-LEAST_BUDGET
returns-then-budget-lt-LEAST_BUDGET g c =
    let writing : Writing = writing_seen g.F.Family.bytes_of c.args.upstream c.args.own c.args.holdtime c.args.budget in
    budget_told g.F.Family.family writing _ (sym (c.has_bad_address.ensures c.args.holdtime c.args.budget) ∙ c.if-has_bad_address.false) (omega arith) (λ (least : 70 ≤ c.args.budget) (most : c.args.budget ≤ 65000). omega (arith, c.then-budget-lt-LEAST_BUDGET.either))

pub invariant_of-result : goal.invariant_of-result
invariant_of-result g c =
    let writing : Writing = writing_seen g.F.Family.bytes_of c.args.upstream c.args.own c.args.holdtime c.args.budget in
    let h : has_bad_address g.F.Family.family writing ≡ false = sym (c.has_bad_address.ensures c.args.holdtime c.args.budget) ∙ c.if-has_bad_address.false in
    is_writing g.F.Family.family writing c.address_has_its_bytes.ensures c.address_has_its_bytes-2.ensures h (omega arith) (omega arith) (omega arith) (omega arith)

pub returns : goal.returns
returns g c =
    let writing : Writing = writing_seen g.F.Family.bytes_of c.args.upstream c.args.own c.args.holdtime c.args.budget in
    let h : has_bad_address g.F.Family.family writing ≡ false = sym (c.has_bad_address.ensures c.args.holdtime c.args.budget) ∙ c.if-has_bad_address.false in
    taken g.F.Family.family writing _ h (omega arith) (omega arith) (omega arith)
