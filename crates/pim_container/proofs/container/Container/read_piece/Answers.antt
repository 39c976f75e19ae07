use Rattle.pim_container.proofs.Words.{◌≡◌, List, ℕ, Ok, ap, sym, subst, inr, record_event, event_seen}
use Rattle.pim_container.proofs.container.Container.read_piece.Goals as goal

pub returns-in-Classic-clause-answer : goal.returns-in-Classic-clause-answer
returns-in-Classic-clause-answer c =
    let P : List ℕ → Type 0 = λ bytes. event_seen bytes c.read_record.result ≡ record_event c.in-Classic.format bytes in
    inr (rw c.in-Classic.is (ap Ok (sym (subst P c.as_slice.ensures.value c.read_record.ensures.event))))
