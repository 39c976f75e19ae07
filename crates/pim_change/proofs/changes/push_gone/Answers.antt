use Rattle.pim_change.proofs.Words.{[], refl, sym, subst, ◌++◌, change, units_seen}
use Rattle.pim_change.proofs.Units.{IsChanging, gone_starts, gone_more, changing_ends}
use Rattle.pim_change.proofs.changes.push_gone.Goals as goal

pub loop-old-init : goal.loop-old-init
loop-old-init g c =
    let bytes_of = g.F.Family.bytes_of in
    subst (λ groups. IsChanging bytes_of c.args.units.now.items groups []
    (units_seen bytes_of c.args.units.now.items ++ change c.args.groups []))
    (sym c.into_iter-old-iterator.ensures.into_iter_gives)
    (gone_starts bytes_of c.args.units.now.items c.args.groups c.requires)

pub loop-old-preserved : goal.loop-old-preserved
loop-old-preserved g c =
    gone_more g.F.Family.bytes_of c.loop-old.units.items c.push_old.new.units.items c.in-Some.old
    c.loop-old.old-iterator c.next.new.self _ c.in-Some.ensures.steps c.in_ok-push_old.ensures c.loop-old.invariant

pub returns : goal.returns
returns g c = changing_ends g.F.Family.bytes_of c.loop-old.units.items c.loop-old.old-iterator [] _
    c.in-None.ensures.steps.0 refl c.loop-old.invariant
