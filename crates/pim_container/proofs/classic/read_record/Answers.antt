use Rattle.pim_container.proofs.Words.{drop, ap, ◌∙◌, None, frame_event}
use Rattle.pim_container.proofs.classic.read_record.Goals as goal

pub returns-clause-event : goal.returns-clause-event
returns-clause-event c =
    c.event_of.ensures.event ∙ ap (λ millis. frame_event millis 0 None c.args.format.link (drop 16 c.args.record.now)) c.millis_of-millis.ensures.value
