use Rattle.pim_text.proofs.Words.{◌∙◌, sym, ap, Head, false≢true}
use Rattle.pim_text.proofs.FieldEnds.{same_some, not_some}
use Rattle.pim_text.proofs.WhichLine.{a_head}
use Rattle.pim_text.proofs.steps.message_step.Goals as goal

pub returns-in_err-head-clause-only : goal.returns-in_err-head-clause-only
returns-in_err-head-clause-only c line next expects is =
    let h = a_head c.args.text.now line next (λ hello. false≢true (sym c.if-is_hello.false ∙ c.is_hello.ensures.no hello)) expects is in
    absurd (not_some h.0 (c.in_err-head.ensures.only h.0 h.1))

pub returns-clause-only : goal.returns-clause-only
returns-clause-only c line next expects is =
    let h = a_head c.args.text.now line next (λ hello. false≢true (sym c.if-is_hello.false ∙ c.is_hello.ensures.no hello)) expects is in
    ap Head (same_some c.in_ok-head.head h.0 (c.in_ok-head.ensures.only h.0 h.1)) ∙ sym h.2
