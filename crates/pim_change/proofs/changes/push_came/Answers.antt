use Rattle.pim_change.proofs.Words.{[], refl, sym, subst, ◌++◌, change, units_seen}
use Rattle.pim_change.proofs.Units.{IsChanging, came_starts, came_more, changing_ends}
use Rattle.pim_change.proofs.changes.push_came.Goals as goal

pub loop-new-init : goal.loop-new-init
loop-new-init g c =
    let bytes_of = g.F.Family.bytes_of in
    subst (λ groups. IsChanging bytes_of c.args.units.now.items [] groups
    (units_seen bytes_of c.args.units.now.items ++ change [] c.args.groups))
    (sym c.into_iter-new-iterator.ensures.into_iter_gives)
    (came_starts bytes_of c.args.units.now.items c.args.groups c.requires)

pub loop-new-preserved : goal.loop-new-preserved
loop-new-preserved g c =
    came_more g.F.Family.bytes_of c.loop-new.units.items c.push_new.new.units.items c.in-Some.new
    c.loop-new.new-iterator c.next.new.self _ c.in-Some.ensures.steps c.in_ok-push_new.ensures c.loop-new.invariant

pub returns : goal.returns
returns g c = changing_ends g.F.Family.bytes_of c.loop-new.units.items [] c.loop-new.new-iterator _ refl
    c.in-None.ensures.steps.0 c.loop-new.invariant
