use Rattle.std.proofs.Common.{◌∙◌, sym, arith}
use Rattle.pim_summary.proofs.Counted.{link_here, link_later, link_none}
use Rattle.pim_summary.proofs.links.link_place.Goals as goal

pub returns-then-same_link : goal.returns-then-same_link
returns-then-same_link c = link_here c.args.link c.args.links.now c.loop-facts.facts-index
    c.loop-facts.place _ _ c.loop-facts-test.true
    (sym c.same_link.ensures ∙ c.if-same_link.true) c.loop-facts.invariant.1

pub loop-facts-preserved : goal.loop-facts-preserved
loop-facts-preserved c = (
  omega (arith, c.loop-facts.invariant.0),
  link_later c.args.link c.args.links.now c.loop-facts.facts-index c.loop-facts.place _ _
      c.loop-facts-test.true
      (sym c.same_link.ensures ∙ c.if-same_link.false) c.loop-facts.invariant.1,
)

pub returns : goal.returns
returns c = link_none c.args.link c.args.links.now c.loop-facts.facts-index c.loop-facts.place _
    c.loop-facts-test.false c.loop-facts.invariant.1
