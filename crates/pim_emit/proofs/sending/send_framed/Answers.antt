use Rattle.pim_emit.proofs.Words.{◌≡◌, ◌/◌, ◌%◌, ◌∷◌, ◌++◌, ◌-◌, [], length, take, subst, Appends}
use Rattle.pim_emit.proofs.Gone.{head_and_some}
use Rattle.pim_emit.proofs.sending.send_framed.Goals as goal

pub returns-clause-bytes : goal.returns-clause-bytes
returns-clause-bytes g c =
    let long = length c.args.message.now in
    let head : c.write_u16.new.buf ≡ (long / 256 % 256 ∷ long % 256 ∷ []) = c.write_u16.ensures in
    subst (λ l. Appends (g.D.Drain.contents c.args.out.now) (g.D.Drain.contents c.send-2.new.out) (take (c.send-2.new.sent - c.args.sent.now) (l ++ c.args.message.now))) head
    (head_and_some _ _ _ c.write_u16.new.buf c.args.message.now c.args.sent.now c.send.new.sent c.send-2.new.sent c.in_ok-send.ensures.all c.send-2.ensures.rises c.in_ok-send.ensures.bytes c.send-2.ensures.bytes)
