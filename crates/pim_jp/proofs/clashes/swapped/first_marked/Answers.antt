use Rattle.pim_jp.proofs.Words.{◌≡◌, ◌∙◌, ◌<◌, ap, take, arith, AreBytes, entry_at, is_among}
use Rattle.pim_jp.proofs.SortedSources.{entry_has_address}
use Rattle.pim_jp.proofs.Marks.{same_as_copies}
use Rattle.pim_jp.proofs.clashes.swapped.first_marked.Goals as goal

pub returns-clause-apart : goal.returns-clause-apart
returns-clause-apart g c = λ place below.
    let this = entry_at g.F.Family.family place c.args.bytes.now in
    let within : place < c.args.count = omega (arith, below, c.first_listed.ensures.bound) in
    let are : AreBytes c.args.bytes.now = λ i. omega (arith, c.type_inv.bytes i) in
    let has = entry_has_address g.F.Family.family place c.args.count c.args.bytes.now are within c.requires.long in
    let sources : c.split_at_mut-marked_sources.result.0.now ≡ take c.copy_marked-source_count.result c.copy_marked-source_count.new.copies = c.split_at_mut-marked_sources.ensures.front in
    let rpts : c.split_at_mut-marked_rpts.result.0.now ≡ take c.copy_marked-rpt_count.result c.copy_marked-rpt_count.new.copies = c.split_at_mut-marked_rpts.ensures.front in
    let same = same_as_copies g.F.Family.value_of c.args.joined c.args.listed.sources.now c.args.listed.rpts.now c.mark_entries.new.source_marks c.mark_entries.new.rpt_marks g.row.N
    c.split_at_mut-marked_sources.result.0.now c.split_at_mut-marked_rpts.result.0.now c.sort_unstable.new.self c.sort_unstable-2.new.self
    c.sort_unstable.ensures.permutation c.sort_unstable-2.ensures.permutation
    (λ n. ap (λ xs. is_among g.F.Family.value_of xs n) sources ∙ c.copy_marked-source_count.ensures.copied n)
    (λ n. ap (λ xs. is_among g.F.Family.value_of xs n) rpts ∙ c.copy_marked-rpt_count.ensures.copied n)
    this (c.requires.listed place within) (c.mark_entries.ensures.marked this has) in
    same ∙ c.first_listed.ensures.before place below

pub returns-clause-clash : goal.returns-clause-clash
returns-clause-clash g c = λ below.
    let this = entry_at g.F.Family.family c.first_listed.result c.args.bytes.now in
    let within : c.first_listed.result < c.args.count = below in
    let are : AreBytes c.args.bytes.now = λ i. omega (arith, c.type_inv.bytes i) in
    let has = entry_has_address g.F.Family.family c.first_listed.result c.args.count c.args.bytes.now are within c.requires.long in
    let sources : c.split_at_mut-marked_sources.result.0.now ≡ take c.copy_marked-source_count.result c.copy_marked-source_count.new.copies = c.split_at_mut-marked_sources.ensures.front in
    let rpts : c.split_at_mut-marked_rpts.result.0.now ≡ take c.copy_marked-rpt_count.result c.copy_marked-rpt_count.new.copies = c.split_at_mut-marked_rpts.ensures.front in
    let same = same_as_copies g.F.Family.value_of c.args.joined c.args.listed.sources.now c.args.listed.rpts.now c.mark_entries.new.source_marks c.mark_entries.new.rpt_marks g.row.N
    c.split_at_mut-marked_sources.result.0.now c.split_at_mut-marked_rpts.result.0.now c.sort_unstable.new.self c.sort_unstable-2.new.self
    c.sort_unstable.ensures.permutation c.sort_unstable-2.ensures.permutation
    (λ n. ap (λ xs. is_among g.F.Family.value_of xs n) sources ∙ c.copy_marked-source_count.ensures.copied n)
    (λ n. ap (λ xs. is_among g.F.Family.value_of xs n) rpts ∙ c.copy_marked-rpt_count.ensures.copied n)
    this (c.requires.listed c.first_listed.result within) (c.mark_entries.ensures.marked this has) in
    same ∙ c.first_listed.ensures.at below
