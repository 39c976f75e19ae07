use Rattle.std.proofs.Common.{◌≡◌, ◌∙◌, ◌<◌, length, ap, sym, subst, if◌then◌else◌}
use Rattle.pim_summary.specs.Lists.{has, put, place_of}
use Rattle.pim_summary.specs.Routers.{upstream_address, new_upstream}
use Rattle.pim_summary.specs.Summary.{linked, upstreams_linked}
use Rattle.pim_summary.proofs.Ordered.{set_ascends}
use Rattle.pim_summary.proofs.Settled.{put_at}
use Rattle.pim_summary.proofs.links.link_upstream.Goals as goal

pub returns-then-place-clause-upstreams : goal.returns-then-place-clause-upstreams
returns-then-place-clause-upstreams c =
    let items = c.args.upstreams.now.items in
    let to = c.in-Some.to in
    let there = sym (subst (λ l. c.find-place.result.is_there
    ≡ has upstream_address to l) c.deref.ensures.value c.find-place.ensures.there)
    ∙ c.if-place.true in
    let at = subst (λ l. c.find-place.result.at
    ≡ place_of upstream_address to l) c.deref.ensures.value c.find-place.ensures.at in
    put_at upstream_address to (new_upstream to) (linked c.args.link) items c.find-place.result.at
    c.index_mut.result.now c.set_link.new.upstream
    there at c.index_mut.ensures.value c.set_link.ensures
    ∙ sym (ap (λ b. if b then put upstream_address to (new_upstream to) (linked c.args.link) items
    else items) there)
    ∙ sym (ap (λ it. upstreams_linked it c.args.link items) c.in-Some.is)

pub returns-then-place-clause-order : goal.returns-then-place-clause-order
returns-then-place-clause-order c =
    let within = subst (λ l. c.find-place.result.at < length l) c.deref.ensures.value
    (c.find-place.ensures.item c.if-place.true) in
    set_ascends upstream_address c.args.upstreams.now.items c.find-place.result.at
    c.index_mut.result.now c.set_link.new.upstream
    (ap upstream_address c.set_link.ensures
    ∙ ap upstream_address c.index_mut.ensures.value) within c.requires.order
