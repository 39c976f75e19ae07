use Rattle.pim_form.proofs.Words.{◌∙◌, List, [], ◌∷◌, ◌++◌, ℕ, ap, arith, Span}
use Rattle.pim_form.proofs.Additions.{spans_within, message_added}
use Rattle.pim_form.proofs.messages.Messages.push.Goals as goal

pub invariant_of-self-2 : goal.invariant_of-self-2
invariant_of-self-2 c =
    let spans = λ (l : List Span). l ++ record { start = c.len-start.result; end = c.len-end.result } ∷ [] in
    spans_within c.self.inside.bytes.items c.args.message.now c.extend_from_slice.new.self.items
    c.self.inside.spans.items c.push_reserved.new.self.items
    (record { start = c.len-start.result; end = c.len-end.result })
    c.in_ok-extend_from_slice.ensures.items c.self.invariant
    (omega (arith, c.len-start.ensures, c.self.inside.bytes.ok.0))
    (omega (arith, c.len-end.ensures, c.extend_from_slice.new.self.ok.0))
    (c.push_reserved.ensures.items ∙ ap spans c.reserve.ensures.items)

pub returns-clause-ok : goal.returns-clause-ok
returns-clause-ok c =
    let spans = λ (l : List Span). l ++ record { start = c.len-start.result; end = c.len-end.result } ∷ [] in
    message_added c.self.inside.bytes.items c.args.message.now c.extend_from_slice.new.self.items
    c.self.inside.spans.items c.push_reserved.new.self.items
    (record { start = c.len-start.result; end = c.len-end.result })
    c.in_ok-extend_from_slice.ensures.items c.self.invariant
    (omega (arith, c.len-start.ensures, c.self.inside.bytes.ok.0))
    (omega (arith, c.len-end.ensures, c.extend_from_slice.new.self.ok.0))
    (c.push_reserved.ensures.items ∙ ap spans c.reserve.ensures.items)
    ∙ ap (λ (messages : List (List ℕ)). messages ++ c.args.message.now ∷ []) c.self.view_is
