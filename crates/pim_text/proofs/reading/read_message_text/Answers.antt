use Rattle.pim_text.proofs.Words.{◌∙◌, sym, subst, ℕ, List, arith, lines}
use Rattle.pim_text.proofs.Went.{Went, at_start, one_further, stopped, read, ends_early, number_is_small}
use Rattle.pim_text.proofs.reading.read_message_text.Goals as goal

pub loop-line-init : goal.loop-line-init
loop-line-init c = rw (c.into_iter-line-iterator.ensures.into_iter_gives, c.new-line-items.ensures) (at_start (lines c.args.text.now))

pub overflow_add-number : goal.overflow_add-number
overflow_add-number c = omega (arith, number_is_small c.args.text.now c.loop-line.line-iterator c.loop-line.progress c.loop-line.number c.requires c.loop-line.invariant)

pub returns-in_default-clause-wrong : goal.returns-in_default-clause-wrong
returns-in_default-clause-wrong c =
    let went = subst (λ (left : List (List ℕ)). Went (lines c.args.text.now) left c.loop-line.progress c.loop-line.number) c.in-Some.ensures.steps c.loop-line.invariant in
    stopped c.written_text_names.ensures c.args.text.now c.in-Some.line.now c.next.new.self c.loop-line.progress c.loop-line.number went c.in_default.ensures

pub loop-line-preserved : goal.loop-line-preserved
loop-line-preserved c =
    let went = subst (λ (left : List (List ℕ)). Went (lines c.args.text.now) left c.loop-line.progress c.loop-line.number) c.in-Some.ensures.steps c.loop-line.invariant in
    one_further (lines c.args.text.now) c.next.new.self c.loop-line.progress c.loop-line.number c.in-Some.line.now went c.in-Some-advance.next c.in-Some-advance.ensures

pub overflow_add-result : goal.overflow_add-result
overflow_add-result c = omega (arith, number_is_small c.args.text.now c.loop-line.line-iterator c.loop-line.progress c.loop-line.number c.requires c.loop-line.invariant)

pub returns-then-is_whole-clause-read : goal.returns-then-is_whole-clause-read
returns-then-is_whole-clause-read c =
    let went = subst (λ (left : List (List ℕ)). Went (lines c.args.text.now) left c.loop-line.progress c.loop-line.number) c.in-None.ensures.steps.0 c.loop-line.invariant in
    rw c.is_hello.ensures (read c.args.text.now c.loop-line.progress c.loop-line.number went (sym c.is_whole.ensures ∙ c.if-is_whole.true))

pub returns-else-is_whole-clause-wrong : goal.returns-else-is_whole-clause-wrong
returns-else-is_whole-clause-wrong c =
    let went = subst (λ (left : List (List ℕ)). Went (lines c.args.text.now) left c.loop-line.progress c.loop-line.number) c.in-None.ensures.steps.0 c.loop-line.invariant in
    ends_early c.args.text.now c.loop-line.progress c.loop-line.number went c.written_text_names.ensures (sym c.is_whole.ensures ∙ c.if-is_whole.false)
