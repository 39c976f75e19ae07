use Rattle.pim_emit.proofs.Words.{◌≡◌, ◌∙◌, ◌∷◌, ◌*◌, ◌+◌, ◌<◌, ◌++◌, subst, List, ℕ, Some, length, take, option_map, sym, ap}
use Rattle.pim_emit.proofs.Words.{refl, arith, source_length, canonical_entry, above, exceptions_in, exception_entries}
use Rattle.pim_jp.specs.declared.entry.Entry.TheVariants.{Rpt}
use Rattle.pim_emit.proofs.Above.{above_first, above_none}
use Rattle.pim_emit.proofs.InForm.{exceptions_ascend}
use Rattle.pim_emit.proofs.Writing.{one_fewer, room_of_one, room_of_fewer, fewer_left, no_more}
use Rattle.pim_emit.proofs.set.write_exceptions.Goals as goal

pub loop-exception-init : goal.loop-exception-init
loop-exception-init g c =
    let whole = c.rpts-rpts.ensures.all in
    record {
      rpts = c.rpts-rpts.ensures.rpts;
      long = refl;
      place = ap (λ (l : List (List ℕ)). c.args.at + length l * source_length g.F.Family.family) whole;
      written = ap (λ (l : List (List ℕ)). take c.args.at c.args.bytes.now ++ exception_entries g.F.Family.family l) whole;
    }

pub write_entry_at-requires : goal.write_entry_at-requires
write_entry_at-requires g c =
    let family = g.F.Family.family in
    let bytes_of = g.F.Family.bytes_of in
    let size = source_length family in
    let all = exceptions_in (bytes_of c.args.group) c.args.demand.now.form in
    let bound = Some c.loop-exception.rpts.bound in
    let exception = bytes_of c.in-Some.exception in
    let is : above bound all ≡ exception ∷ above (Some exception) all =
    above_first bound all exception (exceptions_ascend family (bytes_of c.args.group) c.args.demand.now.form c.is_normal.ensures.normal)
    (sym c.next_exception.ensures.exception ∙ ap (option_map bytes_of) c.in-Some.is) in
    room_of_one c.loop-exception.place size (c.args.at + length all * size) (length c.loop-exception.bytes) (above bound all) exception (above (Some exception) all) is
    c.loop-exception.invariant.place (omega (arith, c.requires.room, c.loop-exception.invariant.long))

pub loop-exception-smaller : goal.loop-exception-smaller
loop-exception-smaller g c =
    let family = g.F.Family.family in
    let bytes_of = g.F.Family.bytes_of in
    let all = exceptions_in (bytes_of c.args.group) c.args.demand.now.form in
    let bound = Some c.loop-exception.rpts.bound in
    let exception = bytes_of c.in-Some.exception in
    let is : above bound all ≡ exception ∷ above (Some exception) all =
    above_first bound all exception (exceptions_ascend family (bytes_of c.args.group) c.args.demand.now.form c.is_normal.ensures.normal)
    (sym c.next_exception.ensures.exception ∙ ap (option_map bytes_of) c.in-Some.is) in
    subst (λ (e : List ℕ). length (above (Some e) all) < length (above bound all)) (sym c.in-Some.ensures.bound)
    (fewer_left (above bound all) exception (above (Some exception) all) is)

pub loop-exception-preserved : goal.loop-exception-preserved
loop-exception-preserved g c =
    let family = g.F.Family.family in
    let bytes_of = g.F.Family.bytes_of in
    let size = source_length family in
    let all = exceptions_in (bytes_of c.args.group) c.args.demand.now.form in
    let bound = Some c.loop-exception.rpts.bound in
    let exception = bytes_of c.in-Some.exception in
    let is : above bound all ≡ exception ∷ above (Some exception) all =
    above_first bound all exception (exceptions_ascend family (bytes_of c.args.group) c.args.demand.now.form c.is_normal.ensures.normal)
    (sym c.next_exception.ensures.exception ∙ ap (option_map bytes_of) c.in-Some.is) in
    let length_is = c.source_length-place.ensures in
    let written : take (c.loop-exception.place + size) c.write_entry_at.new.bytes ≡ take c.loop-exception.place c.loop-exception.bytes ++ canonical_entry family (Rpt exception) =
    c.write_entry_at.ensures.written in
    let behind : above (Some c.next_exception.new.rpts.bound) all ≡ above (Some exception) all = ap (λ (e : List ℕ). above (Some e) all) c.in-Some.ensures.bound in
    record {
      rpts = c.in-Some.ensures.rpts;
      long = c.write_entry_at.ensures.length ∙ c.loop-exception.invariant.long;
      place = ap (λ (l : List (List ℕ)). c.loop-exception.place + c.source_length-place.result + length l * size) behind
          ∙ ap (λ n. c.loop-exception.place + n + length (above (Some exception) all) * size) length_is
          ∙ room_of_fewer c.loop-exception.place size (c.args.at + length all * size) (above bound all) exception (above (Some exception) all) is c.loop-exception.invariant.place;
      written = ap (λ (l : List (List ℕ)). take (c.loop-exception.place + c.source_length-place.result) c.write_entry_at.new.bytes ++ exception_entries family l) behind
          ∙ ap (λ n. take (c.loop-exception.place + n) c.write_entry_at.new.bytes ++ exception_entries family (above (Some exception) all)) length_is
          ∙ one_fewer (λ s. canonical_entry family (Rpt s)) size c.loop-exception.place (above bound all) exception (above (Some exception) all) c.loop-exception.bytes
          c.write_entry_at.new.bytes _ is c.loop-exception.invariant.written written;
    }

pub returns-clause-written : goal.returns-clause-written
returns-clause-written g c =
    let family = g.F.Family.family in
    let bytes_of = g.F.Family.bytes_of in
    let all = exceptions_in (bytes_of c.args.group) c.args.demand.now.form in
    let bound = Some c.loop-exception.rpts.bound in
    no_more (λ s. canonical_entry family (Rpt s)) (source_length family) c.loop-exception.place (c.args.at + length all * source_length family) (above bound all) c.loop-exception.bytes _
    (above_none bound all (sym c.next_exception.ensures.exception ∙ ap (option_map bytes_of) c.in_default.is)) c.loop-exception.invariant.place c.loop-exception.invariant.written
