use Rattle.pim_audit.proofs.Words.{ℕ, List, false}
use Rattle.pim_jp.specs.declared.entry.Entry.{Entry}
use Rattle.pim_audit.specs.Touched.{Grows, TouchesEntry}
use Rattle.pim_audit.proofs.TouchedLists.{Leads}
use Rattle.pim_audit.proofs.touched.Touched.touch_pruned.Given as goal

-- what touches for the entries that are left touches for all
abbrev pub invariant-loop-entry : goal.invariant-loop-entry
invariant-loop-entry g l = record {
  leads : Leads {A = Entry (List ℕ)} (TouchesEntry l.port l.ports false l.set.group) l.entry-iterator l.set.pruned l.self;
  grows : Grows l.fn.self l.self;
}
