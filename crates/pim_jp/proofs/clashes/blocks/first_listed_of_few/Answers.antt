use Rattle.pim_jp.proofs.Words.{◌≡◌, ◌∙◌, ap, sym, ℕ, false, source_length, source_value, entry_of, entry_at, is_listed}
use Rattle.pim_jp.proofs.EntryLoop.{drop_more}
use Rattle.pim_jp.proofs.SortedSources.{place_more}
use Rattle.pim_jp.proofs.clashes.blocks.first_listed_of_few.Goals as goal

pub loop-place-preserved : goal.loop-place-preserved
loop-place-preserved g c =
    let here : entry_of (source_value g.F.Family.family c.loop-place.rest.now) ≡ entry_at g.F.Family.family c.loop-place.place c.args.bytes.now =
    ap (λ b. entry_of (source_value g.F.Family.family b)) c.loop-place.invariant.left in
    let none : is_listed g.F.Family.value_of c.args.listed.sources.now c.args.listed.rpts.now (entry_at g.F.Family.family c.loop-place.place c.args.bytes.now) ≡ false =
    rw (← here, ← c.first_entry.ensures) (sym c.is_listed.ensures ∙ c.if-is_listed.false) in
    record {
      left = rw (c.split_at.ensures.back, c.source_length.ensures, c.loop-place.invariant.left) (drop_more (source_length g.F.Family.family) c.loop-place.place c.args.bytes.now);
      before = place_more (λ (place : ℕ). is_listed g.F.Family.value_of c.args.listed.sources.now c.args.listed.rpts.now (entry_at g.F.Family.family place c.args.bytes.now) ≡ false) c.loop-place.place c.loop-place.invariant.before none;
    }
