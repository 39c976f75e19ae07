use Rattle.pim_jp.proofs.Words.{◌≡◌, ◌∙◌, ◌||◌, false, ap, sym, take, drop, length, arith, take-take, AreBytes}
use Rattle.pim_jp.proofs.Words.{entries_of, AreSame, is_in, entry_at, is_listed}
use Rattle.pim_jp.proofs.Walks.{entries_count}
use Rattle.pim_jp.proofs.SortedSources.{entry_has_address, entry_is_there, in_none, listed_alone, listed_permuted}
use Rattle.pim_jp.proofs.clashes.swapped.first_clash_by_pruned.Goals as goal

pub first_clash_of_sorted-requires-clause-listed : goal.first_clash_of_sorted-requires-clause-listed
first_clash_of_sorted-requires-clause-listed g c = λ place below other.
    let this = entry_at g.F.Family.family place c.args.bytes.now in
    let others = entries_of g.F.Family.family c.args.count c.args.bytes.now in
    let filled = c.fill-ends.new.block in
    let front = c.fill-ends.result.front in
    let back = c.fill-ends.result.back in
    let are : AreBytes c.args.bytes.now = λ i. omega (arith, c.type_inv.bytes i) in
    let has = entry_has_address g.F.Family.family place c.args.count c.args.bytes.now are below c.requires.long in
    let cut : c.split_at_mut-sources.result.0.now ≡ take front filled =
    c.split_at_mut-sources.ensures.front ∙ ap (λ xs. take front xs) c.split_at_mut-before.ensures.front
    ∙ take-take front back filled c.fill-ends.ensures.order in
    let moved_sources : AreSame c.sort_numbers.new.numbers (take front filled) = rw cut at c.sort_numbers.ensures.same in
    let moved_rpts : AreSame c.sort_numbers-2.new.numbers (drop back filled) =
    rw c.split_at_mut-before.ensures.back at c.sort_numbers-2.ensures.same in
    let split : is_in others this ≡ (is_listed g.F.Family.value_of (take front filled) (drop back filled) this || is_in c.fill-ends.new.entries this) =
    ap (λ es. is_in es this) (sym c.new-pruned.ensures) ∙ c.fill-ends.ensures.listed this has in
    let none : is_in c.fill-ends.new.entries this ≡ false =
    in_none c.fill-ends.new.entries this
    (omega (arith, c.fill-ends.ensures.all (omega (arith, c.requires.room.1, ap length c.new-pruned.ensures, entries_count g.F.Family.family c.args.count c.args.bytes.now)))) in
    sym (listed_permuted g.F.Family.value_of (take front filled) (drop back filled) c.sort_numbers.new.numbers c.sort_numbers-2.new.numbers this moved_sources moved_rpts)
    ∙ sym (listed_alone _ _ _ split none)
    ∙ entry_is_there g.F.Family.family c.args.count place c.args.bytes.now below other
