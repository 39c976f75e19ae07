use Rattle.pim_session.proofs.Words.{List, ℕ, subst, ◌∙◌, StatesSender, fault_words, request_seen}
use Rattle.pim_session.proofs.Asked.{all_held, words_asked, long_asked_text, from_asked}
use Rattle.pim_session.proofs.request.request_of_text.Goals as goal

pub returns-in-Err-clause-requests : goal.returns-in-Err-clause-requests
returns-in-Err-clause-requests g c = λ text is short.
    words_asked text c.args.item.is_too_long c.args.items.now.from_line c.from_line.result.now c.args.items.now.text (is.held (is.has_long_line ∙ short)) c.from_line.ensures.line
    c.in-Err.fault (fault_words c.words_fault.result) c.in-Err.ensures.fault c.words_fault.ensures

pub returns-then-item-clause-requests : goal.returns-then-item-clause-requests
returns-then-item-clause-requests g c = λ text is short.
    long_asked_text text c.args.item.is_too_long c.args.items.now.from_line c.from_line.result.now c.args.items.now.text (is.held (is.has_long_line ∙ short)) c.from_line.ensures.line
    c.in-Ok.sender (fault_words c.plain.result) c.in-Ok.ensures.states c.if-item.true c.plain.ensures

pub returns-clause-requests : goal.returns-clause-requests
returns-clause-requests g c = λ text is short.
    let held = all_held c.args.item.is_too_long text c.args.items.now.from_line c.args.items.now.text (is.held (is.has_long_line ∙ short)) c.if-item.false in
    from_asked text c.in-Ok.sender c.text.result.now c.args.item.is_sent (request_seen c.request_of_held.result)
    (subst (λ (l : List ℕ). StatesSender l c.in-Ok.sender) (c.from_line.ensures.line ∙ held.0) c.in-Ok.ensures.states)
    (c.text.ensures.text ∙ held.1) c.text.ensures.short is.is_sent c.request_of_held.ensures.requests
