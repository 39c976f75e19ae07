use Rattle.pim_trace.proofs.Words.{◌∙◌, sym, ap, reading_seen}
use Rattle.pim_trace.proofs.hearing.hear_packet.Goals as goal

pub hear_hello-requires-clause-read : goal.hear_hello-requires-clause-read
hear_hello-requires-clause-read g c = sym c.read_message.ensures ∙ ap (reading_seen g.F.Family.family) c.in-Hello.is

pub hear_message-requires-clause-read : goal.hear_message-requires-clause-read
hear_message-requires-clause-read g c = sym c.read_message.ensures ∙ ap (reading_seen g.F.Family.family) c.in-JoinPrune.is
