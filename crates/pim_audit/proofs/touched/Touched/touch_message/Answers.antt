use Rattle.pim_audit.specs.Touched.{TouchesSet}
use Rattle.pim_audit.proofs.OneMachine.{grows_more}
use Rattle.pim_audit.proofs.TouchedLists.{entries_more, leads_all, leads_next, set_more}
use Rattle.pim_audit.proofs.Words.{true}
use Rattle.pim_audit.proofs.touched.Touched.touch_message.Goals as goal

pub loop-set-preserved : goal.loop-set-preserved
loop-set-preserved g c =
    let port = c.args.port in
    let state = c.args.ports.now in
    let set = c.in-Some.set in
    let grows = grows_more c.loop-set.self c.touch_joined.new.self c.touch_pruned.new.self c.touch_joined.ensures.grows c.touch_pruned.ensures.grows in
    record {
      leads = leads_next (TouchesSet port state) set c.loop-set.set-iterator c.next.new.self c.args.message.now.sets
          c.loop-set.self c.touch_pruned.new.self c.in-Some.ensures.steps c.loop-set.invariant.leads grows
          (λ last more. set_more port state c.touch_pruned.new.self last more set (
            entries_more port state c.touch_joined.new.self c.touch_pruned.new.self c.touch_pruned.ensures.grows true set.group set.joined
                c.touch_joined.ensures.touches,
            c.touch_pruned.ensures.touches,
          ));
      grows = grows_more c.args.self.now c.loop-set.self c.touch_pruned.new.self c.loop-set.invariant.grows grows;
    }

pub returns-clause-touches : goal.returns-clause-touches
returns-clause-touches g c =
    leads_all (TouchesSet c.args.port c.args.ports.now) c.loop-set.set-iterator c.args.message.now.sets c.loop-set.self
    c.in-None.ensures.steps.0 c.loop-set.invariant.leads
