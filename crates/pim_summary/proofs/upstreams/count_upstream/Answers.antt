use Rattle.std.proofs.Common.{◌∙◌, ap, refl}
use Rattle.pim_summary.specs.Routers.{new_upstream, upstream_address, after_message}
use Rattle.pim_summary.proofs.Ordered.{set_ascends}
use Rattle.pim_summary.proofs.Settled.{changed}
use Rattle.pim_summary.proofs.upstreams.count_upstream.Goals as goal

pub returns-clause-upstreams : goal.returns-clause-upstreams
returns-clause-upstreams g c = changed upstream_address c.args.to 64 c.args.upstreams.now.items
    (new_upstream c.args.to) c.args.spare c.requires.spare
    (after_message c.args.is_first g.F.Family.family c.args.message.now) c.settle.result
    c.in-Some.place c.settle.new.items.items _ c.index_mut.result.now
    c.count_message.new.upstream
    c.settle.ensures.place c.in-Some.is c.settle.ensures.items c.index_mut.ensures.value
    c.count_message.ensures refl

pub returns-clause-order : goal.returns-clause-order
returns-clause-order g c = set_ascends upstream_address c.settle.new.items.items c.in-Some.place
    c.index_mut.result.now c.count_message.new.upstream
    (ap upstream_address c.count_message.ensures
    ∙ ap upstream_address c.index_mut.ensures.value) c.in-Some.ensures.within
    c.settle.ensures.order
