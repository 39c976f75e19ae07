use Rattle.std.proofs.Common.{◌∙◌, List, [], ◌∷◌, ◌++◌, ℕ, ap, arith}
use Rattle.pim_form.proofs.Additions.{spans_within, message_added}
use Rattle.pim_form.proofs.messages.Messages.add.Goals as goal

pub invariant_of-self-2 : goal.invariant_of-self-2
invariant_of-self-2 g c =
    let ok = c.in_ok-append_message.ensures.ok in
    spans_within c.self.inside.bytes.items ok.message c.append_message.new.bytes.items c.self.inside.spans.items c.push.new.self.items (record { start = c.len-start.result; end = c.len-end.result })
    ok.more c.self.invariant (omega (arith, c.len-start.ensures, c.self.inside.bytes.ok.0)) (omega (arith, c.len-end.ensures, c.append_message.new.bytes.ok.0)) c.in_ok-push.ensures.items

pub returns : goal.returns
returns g c =
    let ok = c.in_ok-append_message.ensures.ok in
    record {
      message = ok.message;
      more = message_added c.self.inside.bytes.items ok.message c.append_message.new.bytes.items c.self.inside.spans.items c.push.new.self.items (record { start = c.len-start.result; end = c.len-end.result })
          ok.more c.self.invariant (omega (arith, c.len-start.ensures, c.self.inside.bytes.ok.0)) (omega (arith, c.len-end.ensures, c.append_message.new.bytes.ok.0)) c.in_ok-push.ensures.items
          ∙ ap (λ (messages : List (List ℕ)). messages ++ ok.message ∷ []) c.self.view_is;
      carries = ok.carries;
    }
