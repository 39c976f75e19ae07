use Rattle.std.proofs.Common.{rules, sym, ap, ◌∙◌}
use Rattle.pim_fragments.specs.Headers.{is_part, content_at}
use Rattle.pim_fragments.proofs.Walks.{ends, is_here, stops, is_fragment, is_whole, is_option}
use Rattle.pim_fragments.proofs.headers.walk.Goals as goal
use Rattle.pim_fragments.proofs.headers.walk.Goals.{then-next-eq-FRAGMENT+else-is_part, else-next-eq-FRAGMENT}

pub returns-then-next-eq-PIM-clause-content : goal.returns-then-next-eq-PIM-clause-content
returns-then-next-eq-PIM-clause-content c =
    is_here c.loop.counter c.loop.next c.loop.at c.args.total c.args.bytes.now _ c.loop.invariant.same c.loop-test.true c.if-next-eq-PIM.true

pub returns-then-is_part-clause-content : goal.returns-then-is_part-clause-content
returns-then-is_part-clause-content c =
    c.content_at.ensures.content ∙ ap (content_at c.in-Ok.end) c.fragment_at-fragment.ensures
    ∙ is_fragment c.loop.counter c.loop.next c.loop.at c.args.total c.args.bytes.now _ c.loop.invariant.same c.loop-test.true c.if-next-eq-PIM.false c.in-Ok.end (sym c.in-Ok.is ∙ c.header_end.ensures.end) c.if-next-eq-FRAGMENT.true
    (ap is_part (sym c.fragment_at-fragment.ensures) ∙ sym c.is_part.ensures ∙ c.if-is_part.true)

pub returns-in-Err-clause-content : goal.returns-in-Err-clause-content
returns-in-Err-clause-content c =
    stops c.loop.counter c.loop.next c.loop.at c.args.total c.args.bytes.now _ c.loop.invariant.same c.loop-test.true c.if-next-eq-PIM.false c.in-Err.why (sym c.in-Err.is ∙ c.header_end.ensures.end)

pub loop-preserved : goal.loop-preserved
loop-preserved c = record {
  after = search rules;
  inside = search rules;
  same = elim c.if-next-eq-FRAGMENT.branch [
    | then-next-eq-FRAGMENT+else-is_part w ↦
        is_whole c.loop.counter c.loop.next c.loop.at c.args.total c.args.bytes.now _ c.loop.invariant.same c.loop-test.true c.if-next-eq-PIM.false c.in-Ok.end (sym c.in-Ok.is ∙ c.header_end.ensures.end)
        w.if-next-eq-FRAGMENT.true (ap is_part (sym w.fragment_at-fragment.ensures) ∙ sym w.is_part.ensures ∙ w.if-is_part.false)
    | else-next-eq-FRAGMENT w ↦
        is_option c.loop.counter c.loop.next c.loop.at c.args.total c.args.bytes.now _ c.loop.invariant.same c.loop-test.true c.if-next-eq-PIM.false c.in-Ok.end (sym c.in-Ok.is ∙ c.header_end.ensures.end)
        w.if-next-eq-FRAGMENT.false
  ];
}

pub returns-clause-content : goal.returns-clause-content
returns-clause-content c =
    ends c.loop.counter c.loop.next c.loop.at c.args.total c.args.bytes.now _ c.loop.invariant.same c.loop-test.false
