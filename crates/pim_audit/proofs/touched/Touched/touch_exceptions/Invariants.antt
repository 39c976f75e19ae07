use Rattle.pim_audit.proofs.Words.{◌≡◌, ℕ, List, true}
use Rattle.pim_down.specs.declared.machines.key.What.TheVariants.{Rpt}
use Rattle.pim_audit.specs.Touched.{is_touched, Grows}
use Rattle.pim_audit.proofs.HeldMachines.{walk, left_count, IsPassed}
use Rattle.pim_audit.proofs.touched.Touched.touch_exceptions.Given as goal

-- the walk is in the group, and each exception up to it is touched
abbrev pub invariant-loop-record : goal.invariant-loop-record
invariant-loop-record g l =
    let group = g.F.Family.bytes_of l.group in
    record {
      walks : l.machines ≡ walk l.port group l.ports.records l.machines.behind.what;
      touches : (source : List ℕ) → IsPassed l.port group l.ports.records l.machines.behind.what (Rpt source)
          → is_touched group (Rpt source) l.self ≡ true;
      grows : Grows l.fn.self l.self;
    }

-- the machines that are left
abbrev pub decreases-loop-record : goal.decreases-loop-record
decreases-loop-record g l = left_count l.port (g.F.Family.bytes_of l.group) l.ports.records l.machines.behind.what
