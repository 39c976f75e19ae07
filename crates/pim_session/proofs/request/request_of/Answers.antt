use Rattle.pim_session.proofs.Words.{List, ℕ, subst, IsItem, fault_words, RequestsLine, request_seen}
use Rattle.pim_request.specs.declared.items.Item.{Item}
use Rattle.pim_session.proofs.Asked.{line_asked, long_asked, long_text_asked, text_asked}
use Rattle.pim_session.proofs.request.request_of.Goals as goal

pub returns-then-text-clause-requests : goal.returns-then-text-clause-requests
returns-then-text-clause-requests g c = λ some is.
    long_text_asked some c.in-Text.text c.args.items.now (fault_words c.plain-then-text.result)
    (subst (λ (i : Item). IsItem some i c.args.items.now) c.in-Text.is is) c.if-text.true c.plain-then-text.ensures

pub returns-in-Line-clause-requests : goal.returns-in-Line-clause-requests
returns-in-Line-clause-requests g c = λ some is.
    line_asked some c.args.items.now (request_seen c.request_of_line.result)
    (subst (λ (i : Item). IsItem some i c.args.items.now) c.in-Line.is is)
    (subst (λ (l : List ℕ). RequestsLine l (request_seen c.request_of_line.result)) c.line.ensures.line c.request_of_line.ensures.requests)

pub returns-in-LongLine-clause-requests : goal.returns-in-LongLine-clause-requests
returns-in-LongLine-clause-requests g c = λ some is.
    long_asked some c.args.items.now (fault_words c.plain.result)
    (subst (λ (i : Item). IsItem some i c.args.items.now) c.in-LongLine.is is) c.plain.ensures

pub returns-else-text-clause-requests : goal.returns-else-text-clause-requests
returns-else-text-clause-requests g c = λ some is.
    text_asked some c.in-Text.text c.args.items.now (request_seen c.request_of_text.result)
    (subst (λ (i : Item). IsItem some i c.args.items.now) c.in-Text.is is) c.if-text.false c.request_of_text.ensures.requests
