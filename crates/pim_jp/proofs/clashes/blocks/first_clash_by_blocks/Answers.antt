use Rattle.pim_jp.proofs.Words.{◌≡◌, ◌∙◌, ap, ℕ, take, drop, arith, take-take, AreBytes, AreSame, is_in, entry_at}
use Rattle.pim_jp.proofs.SortedSources.{entry_has_address, in_left, in_block, in_none, still_clash}
use Rattle.pim_jp.proofs.clashes.blocks.first_clash_by_blocks.Goals as goal

pub loop-left-preserved : goal.loop-left-preserved
loop-left-preserved g c =
    let filled = c.fill-ends.new.block in
    let cut : c.split_at_mut-sources.result.0.now ≡ take c.fill-ends.result.front filled =
    c.split_at_mut-sources.ensures.front ∙ ap (λ xs. take c.fill-ends.result.front xs) c.split_at_mut-before.ensures.front
    ∙ take-take c.fill-ends.result.front c.fill-ends.result.back filled c.fill-ends.ensures.order in
    let moved_sources : AreSame c.sort_numbers.new.numbers (take c.fill-ends.result.front filled) = rw cut at c.sort_numbers.ensures.same in
    let moved_rpts : AreSame c.sort_numbers-in-loop-left.new.numbers (drop c.fill-ends.result.back filled) =
    rw c.split_at_mut-before.ensures.back at c.sort_numbers-in-loop-left.ensures.same in
    let are : AreBytes c.args.bytes.now = λ i. omega (arith, c.type_inv.bytes i) in
    record {
      bound = omega (arith, c.first_listed-end.ensures.bound, c.loop-left.invariant.bound);
      apart = λ place below.
          let this = entry_at g.F.Family.family place c.args.bytes.now in
          in_left g.F.Family.value_of (take c.fill-ends.result.front filled) (drop c.fill-ends.result.back filled) c.sort_numbers.new.numbers c.sort_numbers-in-loop-left.new.numbers
          (is_in c.loop-left.left this) (is_in c.fill-ends.new.entries this) (is_in c.args.joined.now this) this moved_sources moved_rpts
          (c.loop-left.invariant.apart place (omega (arith, c.first_listed-end.ensures.bound)))
          (c.fill-ends.ensures.listed this (entry_has_address g.F.Family.family place c.args.count c.args.bytes.now are (omega (arith, c.first_listed-end.ensures.bound, c.loop-left.invariant.bound)) c.requires.long))
          (c.first_listed-end.ensures.before place below);
      clash = still_clash (λ (place : ℕ). is_in c.args.joined.now (entry_at g.F.Family.family place c.args.bytes.now)) c.first_listed-end.result c.loop-left.end c.args.count c.first_listed-end.ensures.bound c.loop-left.invariant.clash
          (λ below.
          let this = entry_at g.F.Family.family c.first_listed-end.result c.args.bytes.now in
          in_block g.F.Family.value_of (take c.fill-ends.result.front filled) (drop c.fill-ends.result.back filled) c.sort_numbers.new.numbers c.sort_numbers-in-loop-left.new.numbers
          (is_in c.loop-left.left this) (is_in c.fill-ends.new.entries this) (is_in c.args.joined.now this) this moved_sources moved_rpts
          (c.loop-left.invariant.apart c.first_listed-end.result below)
          (c.fill-ends.ensures.listed this (entry_has_address g.F.Family.family c.first_listed-end.result c.args.count c.args.bytes.now are (omega (arith, below, c.loop-left.invariant.bound)) c.requires.long))
          (c.first_listed-end.ensures.at below));
    }

pub returns-clause-apart : goal.returns-clause-apart
returns-clause-apart g c = λ place below.
    let this = entry_at g.F.Family.family place c.args.bytes.now in
    c.loop-left.invariant.apart place below ∙ in_none c.loop-left.left this (omega (arith, c.loop-left-test.false, c.count_left.ensures))
