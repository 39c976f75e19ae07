use Rattle.pim_emit.proofs.Words.{◌≡◌, ◌∙◌, ◌∷◌, ◌*◌, ◌+◌, Some, length, drop, option_map, take, ◌++◌, sym, ap, refl, subst, ◌≤◌}
use Rattle.pim_emit.proofs.Words.{Fits, w64, arith, source_length, canonical_entry, above, sources_in, piece_seen, piece_form}
use Rattle.pim_jp.specs.declared.entry.Entry.TheVariants.{Source}
use Rattle.pim_emit.proofs.Above.{above_first, above_none}
use Rattle.pim_emit.proofs.InForm.{sources_ascend}
use Rattle.pim_emit.proofs.Room.{one_fits, entry_fits, place_of_entry_fits}
use Rattle.pim_emit.proofs.Writing.{none_written, cut_before, one_more, all_cut, the_most, the_whole}
use Rattle.pim_emit.proofs.set.write_sources_ahead.Goals.{else-loop-count-test, then-loop-count-test+in_default}
use Rattle.pim_emit.proofs.set.write_sources_ahead.Goals as goal

pub loop-count-init : goal.loop-count-init
loop-count-init g c = record {
  most = omega arith;
  within = omega arith;
  long = refl;
  next = λ places. c.look_ahead.ensures.next (omega (arith, places, c.look_ahead.ensures.length));
  left = refl;
  written = none_written c.args.at (source_length g.F.Family.family) c.args.bytes.now;
}

-- so many bytes has an entry, and there is room for the most of them
pub overflow_mul-place : goal.overflow_mul-place
overflow_mul-place g c =
    subst (λ n. Fits w64 (c.loop-count.count * n)) (sym c.source_length.ensures)
    (entry_fits c.args.at c.loop-count.count c.args.most (source_length g.F.Family.family) (length c.args.bytes.now) (omega (arith, c.loop-count-test.true)) c.requires.room c.requires.few)

pub overflow_add-place : goal.overflow_add-place
overflow_add-place g c =
    subst (λ n. Fits w64 (c.args.at + c.loop-count.count * n)) (sym c.source_length.ensures)
    (place_of_entry_fits c.args.at c.loop-count.count c.args.most (source_length g.F.Family.family) (length c.args.bytes.now) (omega (arith, c.loop-count-test.true)) c.requires.room c.requires.few)

pub write_entry_at-requires : goal.write_entry_at-requires
write_entry_at-requires g c =
    let fits = one_fits c.args.at c.loop-count.count c.args.most (source_length g.F.Family.family) (length c.args.bytes.now) (omega (arith, c.loop-count-test.true)) c.requires.room in
    subst (λ n. c.args.at + c.loop-count.count * n + source_length g.F.Family.family ≤ length c.loop-count.bytes) (sym c.source_length.ensures)
    (subst (λ l. c.args.at + c.loop-count.count * source_length g.F.Family.family + source_length g.F.Family.family ≤ l) (sym c.loop-count.invariant.long) fits)

pub loop-count-preserved : goal.loop-count-preserved
loop-count-preserved g c =
    let family = g.F.Family.family in
    let bytes_of = g.F.Family.bytes_of in
    let form = c.args.demand.now.form in
    let sources = sources_in (bytes_of c.args.piece.now.group) form in
    let all = (piece_form (piece_seen bytes_of c.args.piece.now) form).sources in
    let source = bytes_of c.in-Some.source in
    let left : drop c.loop-count.count all ≡ source ∷ above (Some source) sources =
    sym c.loop-count.invariant.left
    ∙ above_first (option_map bytes_of c.loop-count.last) sources source
    (sources_ascend family (bytes_of c.args.piece.now.group) form c.is_normal.ensures.normal) (sym c.next_ahead.ensures.source ∙ ap (option_map bytes_of) c.in-Some.is) in
    let cut = cut_before c.loop-count.count all source (above (Some source) sources) left in
    record {
      most = omega (arith, c.loop-count-test.true);
      within = omega (arith, cut.within);
      next = λ places. c.in-Some.ensures.next (omega (arith, places, c.next_ahead.ensures.length));
      long = c.write_entry_at.ensures.length ∙ c.loop-count.invariant.long;
      left = sym cut.behind;
      written = one_more (λ s. canonical_entry family (Source s)) (source_length family) c.args.at (take c.args.at c.args.bytes.now)
          c.loop-count.count all source (above (Some source) sources) c.loop-count.bytes c.write_entry_at.new.bytes left c.loop-count.invariant.written
          (subst (λ n. take (c.args.at + c.loop-count.count * n + source_length family) c.write_entry_at.new.bytes
          ≡ take (c.args.at + c.loop-count.count * n) c.loop-count.bytes ++ canonical_entry family (Source source)) c.source_length.ensures c.write_entry_at.ensures.written);
    }

pub returns-clause-reported : goal.returns-clause-reported
returns-clause-reported g c =
    let family = g.F.Family.family in
    let bytes_of = g.F.Family.bytes_of in
    let form = c.args.demand.now.form in
    let all = (piece_form (piece_seen bytes_of c.args.piece.now) form).sources in
    let kept = c.loop-count.invariant in
    record {
      count = elim c.loop-count-test.branch [
        | else-loop-count-test w ↦ the_most c.loop-count.count c.args.most (length all) kept.most kept.within (omega (arith, w.loop-count-test.false))
        | then-loop-count-test+in_default w ↦ the_whole c.loop-count.count c.args.most (length all) kept.most
            (all_cut c.loop-count.count all
            (sym kept.left ∙ above_none (option_map bytes_of c.loop-count.last) (sources_in (bytes_of c.args.piece.now.group) form) (sym w.next_ahead.ensures.source ∙ ap (option_map bytes_of) w.in_default.is)) kept.within)
      ];
      left = kept.left;
    }
