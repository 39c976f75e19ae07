use Rattle.std.proofs.Common.{◌≡◌, ◌∙◌, ap, refl}
use Rattle.pim_summary.specs.declared.routers.OfSender.{OfSender}
use Rattle.pim_summary.specs.declared.routers.OfSender.TheVariants.{Hello, JoinPruneTo, Nothing}
use Rattle.pim_summary.specs.Facts.{Router}
use Rattle.pim_summary.specs.Routers.{new_router, router_address, router_after, is_first_by}
use Rattle.pim_summary.proofs.Ordered.{set_ascends}
use Rattle.pim_summary.proofs.Settled.{changed, tested_by}
use Rattle.pim_summary.proofs.routers.hear_sender.Goals as goal

same_address : (said : OfSender) (router : Router)
    → router_address (router_after said router) ≡ router_address router
same_address (Hello facts) router = refl
same_address (JoinPruneTo to) router = refl
same_address Nothing router = refl

pub returns-clause-routers : goal.returns-clause-routers
returns-clause-routers c = changed router_address c.args.source 1024 c.args.routers.now.items
    (new_router c.args.source) c.args.spare c.requires.spare
    (router_after c.args.said) c.settle.result c.in-Some.place c.settle.new.items.items _
    c.index_mut.result.now c.hear-is_first.new.router
    c.settle.ensures.place c.in-Some.is c.settle.ensures.items c.index_mut.ensures.value
    c.hear-is_first.ensures.router refl

pub returns-clause-order : goal.returns-clause-order
returns-clause-order c = set_ascends router_address c.settle.new.items.items c.in-Some.place
    c.index_mut.result.now c.hear-is_first.new.router
    (ap router_address c.hear-is_first.ensures.router
    ∙ same_address c.args.said c.index_mut.result.now
    ∙ ap router_address c.index_mut.ensures.value)
    c.in-Some.ensures.within c.settle.ensures.order

pub returns-clause-first : goal.returns-clause-first
returns-clause-first c = tested_by router_address c.args.source 1024 c.args.routers.now.items
    (new_router c.args.source) c.args.spare c.requires.spare
    (is_first_by c.args.said) c.hear-is_first.result c.settle.result c.in-Some.place
    c.settle.new.items.items c.index_mut.result.now
    c.settle.ensures.place c.in-Some.is c.settle.ensures.items c.index_mut.ensures.value
    c.hear-is_first.ensures.first
