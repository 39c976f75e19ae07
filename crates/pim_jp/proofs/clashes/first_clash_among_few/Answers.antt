use Rattle.pim_jp.proofs.Words.{◌≡◌, ◌∙◌, ap, sym, false, source_length, source_value, entry_of, is_in, entry_at}
use Rattle.pim_jp.proofs.EntryLoop.{drop_more}
use Rattle.pim_jp.proofs.EntryPass.{apart_more}
use Rattle.pim_jp.proofs.clashes.first_clash_among_few.Goals as goal

pub loop-place-preserved : goal.loop-place-preserved
loop-place-preserved g c =
    let here : entry_of (source_value g.F.Family.family c.loop-place.rest.now) ≡ entry_at g.F.Family.family c.loop-place.place c.args.bytes.now =
    ap (λ b. entry_of (source_value g.F.Family.family b)) c.loop-place.invariant.left in
    let apart : is_in c.args.joined.now (entry_at g.F.Family.family c.loop-place.place c.args.bytes.now) ≡ false =
    rw (← here, ← c.first_entry.ensures, ← c.again.ensures) (sym c.is_among.ensures ∙ c.if-is_among.false) in
    record {
      left = rw (c.split_at.ensures.back, c.source_length.ensures, c.loop-place.invariant.left) (drop_more (source_length g.F.Family.family) c.loop-place.place c.args.bytes.now);
      apart = apart_more g.F.Family.family c.args.joined.now c.loop-place.place c.args.bytes.now c.loop-place.invariant.apart apart;
    }
