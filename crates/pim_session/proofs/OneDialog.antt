-- A session has one dialog, but that memory may be refused.
use Rattle.pim_session.proofs.Words.{◌∙◌, sym, subst, [], ◌∷◌, ◌++◌, IsDialog, Session}
use Rattle.pim_session.specs.OneDialog.{IsDialogWithRoom, OneAnswerToItem, OneDialog, DialogWithRoom}
use Rattle.pim_session.proofs.OneAsked.{one_asked}
use Rattle.pim_session.proofs.OneAsked as asking
use Rattle.pim_session.proofs.OneAnswered.{one_answered}
use Rattle.pim_session.proofs.OneAnswered as answering

pub one_answer_to_item : asking.Laws → answering.Laws → OneAnswerToItem
one_answer_to_item requested answered session item text other after end is too room more =
    one_answered answered session is.requested too.requested text other after end
    (one_asked requested item is.requested too.requested is.requests too.requests)
    is.answers too.answers room more

pub laws : OneAnswerToItem → OneDialog
unfolding IsDialogWithRoom
laws one session [] text other after end is too = (is.0 ∙ sym too.0, is.1 ∙ sym too.1)
laws one session (item ∷ items) text other after end (first, between, others, answer, room, cut, rest) (f, b, more, reply, space, so, left) =
    let same = one session item first f between b answer reply room space in
    let head = same.0 in
    let tail = laws one between items others more after end rest (subst (λ (s : Session). IsDialogWithRoom s items more end) (sym same.1) left) in
    let back = tail.0 in
    (cut ∙ ((λ i. head i ++ back i) ∙ sym so), tail.1)

pub dialog_with_room : DialogWithRoom
unfolding IsDialogWithRoom IsDialog
dialog_with_room session [] text after is = is
dialog_with_room session (item ∷ items) text after (first, between, others, answer, room, cut, rest) =
    (first, between, others, answer, cut, dialog_with_room between items others after rest)
