use Rattle.pim_jp.proofs.Words.{◌∙◌, ◌<◌, arith, AreBytes, entry_at}
use Rattle.pim_jp.proofs.SortedSources.{entry_has_address, in_none}
use Rattle.pim_jp.proofs.OtherWay.{not_in, clash_in}
use Rattle.pim_jp.proofs.clashes.swapped.first_clash_of_sorted.Goals as goal

pub returns-then-count_left-eq0-clause-apart : goal.returns-then-count_left-eq0-clause-apart
returns-then-count_left-eq0-clause-apart g c = λ place below.
    let this = entry_at g.F.Family.family place c.args.bytes.now in
    let are : AreBytes c.args.bytes.now = λ i. omega (arith, c.type_inv.bytes i) in
    let has = entry_has_address g.F.Family.family place c.args.count c.args.bytes.now are below c.requires.long in
    not_in c.args.joined.now this (λ other. c.from_listed-left.ensures this has (c.requires.listed place below other)
    ∙ in_none c.from_listed-left.result this (omega (arith, c.if-count_left-eq0.true, c.count_left.ensures)))

pub returns-clause-apart : goal.returns-clause-apart
returns-clause-apart g c = λ place below.
    let this = entry_at g.F.Family.family place c.args.bytes.now in
    let within : place < c.args.count = omega (arith, below, c.first_marked.ensures.bound) in
    let are : AreBytes c.args.bytes.now = λ i. omega (arith, c.type_inv.bytes i) in
    let has = entry_has_address g.F.Family.family place c.args.count c.args.bytes.now are within c.requires.long in
    not_in c.args.joined.now this (λ other. c.from_listed-left.ensures this has (c.requires.listed place within other)
    ∙ c.first_marked.ensures.apart place below)

pub returns-clause-clash : goal.returns-clause-clash
returns-clause-clash g c = λ below.
    let this = entry_at g.F.Family.family c.first_marked.result c.args.bytes.now in
    let are : AreBytes c.args.bytes.now = λ i. omega (arith, c.type_inv.bytes i) in
    let has = entry_has_address g.F.Family.family c.first_marked.result c.args.count c.args.bytes.now are below c.requires.long in
    clash_in c.args.joined.now c.from_listed-left.result this (λ other. c.from_listed-left.ensures this has (c.requires.listed c.first_marked.result below other))
    (c.first_marked.ensures.clash below)
