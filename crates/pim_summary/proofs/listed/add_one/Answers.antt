use Rattle.std.proofs.Common.{◌≡◌, ◌∙◌, ap, subst, refl}
use Rattle.pim_summary.specs.Lists.{spare_of}
use Rattle.pim_summary.proofs.Ordered.{set_ascends}
use Rattle.pim_summary.proofs.Settled.{changed}
use Rattle.pim_summary.proofs.listed.add_one.Goals as goal

pub returns-clause-items : goal.returns-clause-items
returns-clause-items g c =
    let spare = subst (λ l. c.spare_zero-spare.result
    ≡ spare_of g.T.Listed.key c.args.address 64 (g.T.Counted.zero c.args.address) l)
    c.deref.ensures.value c.spare_zero-spare.ensures.spare in
    changed g.T.Listed.key c.args.address 64 c.args.items.now.items (g.T.Counted.zero
    c.args.address) c.spare_zero-spare.result spare
    g.T.Counted.one_more c.settle.result c.in-Some.place c.settle.new.items.items _
    c.index.result.now c.one_more.result
    c.settle.ensures.place c.in-Some.is c.settle.ensures.items c.index.ensures c.one_more.ensures
    refl

pub returns-clause-order : goal.returns-clause-order
returns-clause-order g c = set_ascends g.T.Listed.key c.settle.new.items.items c.in-Some.place
    c.index.result.now c.one_more.result
    (ap g.T.Listed.key c.one_more.ensures ∙ g.met.T.Counted.key_of_one_more c.index.result.now
    ∙ ap g.T.Listed.key c.index.ensures)
    c.in-Some.ensures.within c.settle.ensures.order
