use Rattle.std.proofs.Common.{◌≡◌, arith, subst}
use Rattle.pim_summary.proofs.Counted.{link_counted, link_new}
use Rattle.pim_summary.specs.Summary.{link_place}
use Rattle.pim_summary.proofs.links.count_link.Goals as goal

pub returns-then-place-len-clause-links : goal.returns-then-place-len-clause-links
returns-then-place-len-clause-links c = link_counted c.args.link c.args.links.now.items
    c.link_place-place.result _ c.index_mut.result.now c.index.result.now
    (subst (λ l. c.link_place-place.result
    ≡ link_place c.args.link l) c.deref.ensures.value c.link_place-place.ensures)
    (omega (arith, c.if-place-ge-MOST_LINKS.false)) (omega (
      arith,
      c.if-place-len.true,
      c.len.ensures,
    )) c.index_mut.ensures.value c.index.ensures c.one_more.ensures

pub returns-clause-links : goal.returns-clause-links
returns-clause-links c = link_new c.args.link c.args.links.now.items c.push.new.self.items
    c.link_place-place.result
    (subst (λ l. c.link_place-place.result
    ≡ link_place c.args.link l) c.deref.ensures.value c.link_place-place.ensures)
    (omega (arith, c.if-place-ge-MOST_LINKS.false)) (omega (
      arith,
      c.if-place-len.false,
      c.len.ensures,
    )) c.in_ok-push.ensures.items
