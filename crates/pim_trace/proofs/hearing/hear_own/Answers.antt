use Rattle.pim_trace.proofs.Words.{[], ◌∷◌, None, sym, subst, slice_index_or, AppendsFront, judgment, restart_of}
use Rattle.pim_trace.proofs.Words.{ledger_seen, packet_in, text_on}
use Rattle.pim_router.specs.declared.verdict.Verdict.TheVariants.{Mine}
use Rattle.pim_trace.proofs.Written.{front-longer}
use Rattle.pim_trace.proofs.Writing.{stopped, text-append}
use Rattle.pim_trace.proofs.hearing.hear_own.Goals as goal

pub returns-in_err-write_verdict-clause-bytes : goal.returns-in_err-write_verdict-clause-bytes
returns-in_err-write_verdict-clause-bytes g c =
    let line = g.T.EventWriter.line c.args.event_writer.now in
    let ledger = ledger_seen g.F.Family.bytes_of c.args.ledger.now in
    let port = c.args.packet.now.port in
    let first = judgment g.F.Family.family c.args.packet.now.frame (packet_in g.F.Family.bytes_of c.args.packet.now) Mine ∷ [] in
    let more = restart_of c.args.packet.now.frame (slice_index_or c.args.ledger.now.own.items port None) c.args.generation in
    let old = g.T.EventWriter.contents c.args.device.now in
    let new = g.T.EventWriter.contents c.write_verdict.new.device in
    stopped _ _ c.from_residual.result _ c.from_residual.ensures.0
    (subst (λ l. AppendsFront old new l) (sym (text-append line ledger c.args.ms port first more))
    (front-longer old new (text_on line ledger c.args.ms port first) (text_on line ledger c.args.ms port more) c.in_err-write_verdict.ensures.bytes))
