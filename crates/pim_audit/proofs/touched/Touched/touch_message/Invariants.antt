use Rattle.pim_jp.specs.Message.{GroupSet}
use Rattle.pim_audit.specs.Touched.{Grows, TouchesSet}
use Rattle.pim_audit.proofs.TouchedLists.{Leads}
use Rattle.pim_audit.proofs.touched.Touched.touch_message.Given as goal

-- what touches for the sets that are left touches for all
abbrev pub invariant-loop-set : goal.invariant-loop-set
invariant-loop-set g l = record {
  leads : Leads {A = GroupSet} (TouchesSet l.port l.ports) l.set-iterator l.message.sets l.self;
  grows : Grows l.fn.self l.self;
}
