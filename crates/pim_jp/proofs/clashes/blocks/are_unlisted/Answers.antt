use Rattle.pim_jp.proofs.Words.{◌≡◌, ◌∙◌, ◌||◌, false, ap, sym, take, drop, length, arith, AreBytes, entries_of, is_in}
use Rattle.pim_jp.proofs.Words.{entry_at, is_listed}
use Rattle.pim_jp.proofs.Walks.{entries_count}
use Rattle.pim_jp.proofs.SortedSources.{entry_has_address, entry_is_there, in_none, none_listed, listed_alone}
use Rattle.pim_jp.proofs.clashes.blocks.are_unlisted.Goals as goal

pub returns-clause-unlisted : goal.returns-clause-unlisted
returns-clause-unlisted g c = λ plain place below.
    let this = entry_at g.F.Family.family place c.args.bytes.now in
    let others = entries_of g.F.Family.family c.args.count c.args.bytes.now in
    let block = c.fill-ends.new.block in
    let are : AreBytes c.args.bytes.now = λ i. omega (arith, c.type_inv.bytes i) in
    let listed : is_in others this ≡ (is_listed g.F.Family.value_of (take c.fill-ends.result.front block) (drop c.fill-ends.result.back block) this || is_in c.fill-ends.new.entries this) =
    ap (λ es. is_in es this) (sym c.new-entries.ensures)
    ∙ c.fill-ends.ensures.listed this (entry_has_address g.F.Family.family place c.args.count c.args.bytes.now are below c.requires.long) in
    let none : is_in c.fill-ends.new.entries this ≡ false =
    in_none c.fill-ends.new.entries this
    (omega (arith, c.fill-ends.ensures.all (omega (arith, c.requires.room.1, ap length c.new-entries.ensures, entries_count g.F.Family.family c.args.count c.args.bytes.now)))) in
    none_listed g.F.Family.value_of c.args.listed.sources.now c.args.listed.rpts.now (take c.fill-ends.result.front block) (drop c.fill-ends.result.back block) others this
    (c.are_numbers_unlisted.ensures plain this)
    (entry_is_there g.F.Family.family c.args.count place c.args.bytes.now below)
    (listed_alone _ _ _ listed none)
