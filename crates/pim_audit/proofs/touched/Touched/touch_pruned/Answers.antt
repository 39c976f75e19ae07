use Rattle.pim_audit.proofs.Words.{ℕ, List, false, subst}
use Rattle.pim_jp.specs.Seen.{entry_seen}
use Rattle.pim_audit.specs.Touched.{TouchesEntry}
use Rattle.pim_audit.proofs.OneMachine.{grows_more}
use Rattle.pim_audit.proofs.TouchedLists.{entry_more, leads_all, leads_next}
use Rattle.pim_audit.proofs.touched.Touched.touch_pruned.Goals as goal

pub loop-entry-preserved : goal.loop-entry-preserved
loop-entry-preserved g c =
    let port = c.args.port in
    let state = c.args.ports.now in
    let group = c.args.set.now.group in
    let this = entry_seen g.F.Family.bytes_of c.in-Some.entry in
    record {
      leads = leads_next (TouchesEntry port state false group) this c.loop-entry.entry-iterator c.next.new.self c.args.set.now.pruned
          c.loop-entry.self c.touch_entry.new.self c.in-Some.ensures.steps c.loop-entry.invariant.leads c.touch_entry.ensures.grows
          (λ last more. entry_more port state c.touch_entry.new.self last more false group this
          (subst (λ (of : List ℕ). TouchesEntry port state false of c.touch_entry.new.self this) c.group-group.ensures c.touch_entry.ensures.touches));
      grows = grows_more c.args.self.now c.loop-entry.self c.touch_entry.new.self c.loop-entry.invariant.grows c.touch_entry.ensures.grows;
    }

pub returns-clause-touches : goal.returns-clause-touches
returns-clause-touches g c =
    leads_all (TouchesEntry c.args.port c.args.ports.now false c.args.set.now.group) c.loop-entry.entry-iterator c.args.set.now.pruned c.loop-entry.self
    c.in-None.ensures.steps.0 c.loop-entry.invariant.leads
