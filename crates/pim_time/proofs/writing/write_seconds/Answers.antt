use Rattle.std.proofs.Common.{◌∙◌, sym, ap, length, drop, ◌++◌}
use Rattle.pim_time.proofs.Texts.{seconds_pieces, seconds_length}
use Rattle.pim_time.proofs.writing.write_seconds.Goals as goal

pub returns-clause-length : goal.returns-clause-length
returns-clause-length c = seconds_length c.args.millis _ (c.as_bytes-seconds.ensures.value ∙ c.format.ensures.text)

pub returns-clause-text : goal.returns-clause-text
returns-clause-text c =
    let front = c.copy_from_slice.new.self in
    let written = c.copy_from_slice.ensures.after in
    let tail = c.split_at_mut-part.ensures.back ∙ ap (drop 4) c.split_at_mut-front.ensures.back in
    ap (λ t. front ++ (c.write_millis.new.out ++ t)) tail
    ∙ seconds_pieces c.args.millis (length c.as_bytes-seconds.result.now) front _ _ (written ∙ (c.as_bytes-seconds.ensures.value ∙ c.format.ensures.text)) c.write_millis.ensures (ap length (sym written))
