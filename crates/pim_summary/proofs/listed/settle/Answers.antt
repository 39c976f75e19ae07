use Rattle.std.proofs.Common.{◌≡◌, ◌∙◌, ap, sym, subst, is_some, IfSome, Some, if◌then◌else◌}
use Rattle.std.specs.List.{insert}
use Rattle.pim_summary.specs.Lists.{Ascends, place_of}
use Rattle.pim_summary.proofs.Ordered.{settled_ascends}
use Rattle.pim_summary.proofs.listed.settle.Goals as goal

pub returns-clause-order : goal.returns-clause-order
returns-clause-order g c =
    let key = g.T.Listed.key in
    let items = c.args.items.now.items in
    let ok = c.insert.ensures.succeeds (c.requires.room (ap is_some c.in-Some.is)) in
    let address = subst (λ s. IfSome s (λ it. key it
    ≡ c.args.address)) c.in-Some.is c.requires.spare.1 in
    let e = c.insert.ensures.items ∙ ap (λ b. if b then insert items c.find-place.result.at
    c.in-Some.item else items) ok
    ∙ ap (λ n. insert items n c.in-Some.item) c.find-place.ensures.at
    ∙ ap (λ l. insert items (place_of key c.args.address l) c.in-Some.item) c.deref.ensures.value in
    subst (Ascends key) (sym e) (settled_ascends key c.args.address items (Some c.in-Some.item)
    address c.requires.order)
