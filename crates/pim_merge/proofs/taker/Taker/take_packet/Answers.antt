use Rattle.std.proofs.Common.{◌∙◌, Ok, ap, sym, inr, vec_capacity}
use Rattle.std.proofs.lemmas.Result.{err_from_is_err_and}
use Rattle.pim_capture.specs.Capture.{packet, skipped}
use Rattle.pim_capture.specs.Seen.{ip_seen}
use Rattle.pim_merge.specs.Taker.{judged_by, untaken, untaken_why}
use Rattle.pim_merge.proofs.Takers.{fault_given, never_memory, taken_is, untaken_is, packet_answers, packet_longer}
use Rattle.pim_merge.proofs.taker.Taker.take_packet.Goals as goal

pub returns-in_err-take_origin-clause-answer : goal.returns-in_err-take_origin-clause-answer
returns-in_err-take_origin-clause-answer c =
    let p = err_from_is_err_and c.from_residual.result c.from_residual.ensures.1 in
    let judged = judged_by c.args.self.now c.args.origin in
    rw (p.1, p.2) (inr (fault_given _ _ judged _ c.in_err-take_origin.ensures.answer))

pub returns-in_err-take_origin-clause-memory : goal.returns-in_err-take_origin-clause-memory
returns-in_err-take_origin-clause-memory c =
    let p = err_from_is_err_and c.from_residual.result c.from_residual.ensures.1 in
    let judged = judged_by c.args.self.now c.args.origin in
    rw (p.1, p.2) (never_memory judged _ _ c.in_err-take_origin.ensures.answer)

pub returns-then-not-branch-clause-answer : goal.returns-then-not-branch-clause-answer
returns-then-not-branch-clause-answer c =
    inr (untaken_is _ (untaken c.args.self.now c.args.millis c.args.origin) (judged_by c.args.self.now c.args.origin)
    (c.in_ok-take_origin.ensures.answer ∙ ap Ok c.if-not-branch.true)
    ∙ ap (λ why. Ok (skipped c.args.millis why)) (sym (c.untaken_why-why.ensures
    ∙ ap (λ s. untaken_why s.choice c.args.origin) c.in_ok-take_origin.ensures.state)))

pub returns-clause-answer : goal.returns-clause-answer
returns-clause-answer c =
    let datagram = ip_seen c.args.piece.now c.args.ip.now in
    packet_answers c.keep_message.result c.args.millis c.payload.result.now datagram _ c.payload.ensures
    (taken_is (packet c.args.millis datagram.payload datagram) (untaken c.args.self.now c.args.millis c.args.origin)
    (judged_by c.args.self.now c.args.origin) (c.in_ok-take_origin.ensures.answer ∙ ap Ok c.if-not-branch.false))
    c.keep_message.new.buffer.items (c.keep_message.ensures.answer c.args.piece.now)

pub returns-clause-memory : goal.returns-clause-memory
returns-clause-memory c =
    let datagram = ip_seen c.args.piece.now c.args.ip.now in
    packet_longer c.keep_message.result c.args.millis c.payload.result.now datagram _ c.payload.ensures
    (taken_is (packet c.args.millis datagram.payload datagram) (untaken c.args.self.now c.args.millis c.args.origin)
    (judged_by c.args.self.now c.args.origin) (c.in_ok-take_origin.ensures.answer ∙ ap Ok c.if-not-branch.false))
    (vec_capacity c.args.buffer.now) c.keep_message.ensures.memory
