use Rattle.pim_down.specs.declared.machines.key.What.TheVariants.{Rpt, Source}
use Rattle.pim_audit.proofs.TouchedLists.{touches_own, touches_unless}
use Rattle.pim_form.specs.Wants.{state_on}
use Rattle.pim_audit.specs.Touched.{is_left_in}
use Rattle.pim_audit.proofs.touched.Touched.touch_entry.Goals as goal

pub returns-in-Source-clause-touches : goal.returns-in-Source-clause-touches
returns-in-Source-clause-touches g c =
    rw (c.in-Source.is)
    (touches_unless
    (is_left_in c.args.joins (state_on c.args.ports.now.records c.args.port (g.F.Family.bytes_of c.args.group) (Source (g.F.Family.bytes_of c.in-Source.source))))
    (g.F.Family.bytes_of c.args.group) (Source (g.F.Family.bytes_of c.in-Source.source)) c.touch_own.new.self c.touch_own.ensures.touches)

pub returns-in-Rpt-clause-touches : goal.returns-in-Rpt-clause-touches
returns-in-Rpt-clause-touches g c =
    rw (c.in-Rpt.is)
    (touches_own (g.F.Family.bytes_of c.args.group) (Rpt (g.F.Family.bytes_of c.in-Rpt.source)) c.touch.new.self c.touch.ensures.touches)
