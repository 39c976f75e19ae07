use Rattle.std.proofs.Common.{refl, sym}
use Rattle.pim_local.specs.Seen.{join_seen}
use Rattle.pim_files.proofs.Stated.{refused, unstated_line}
use Rattle.pim_files.proofs.local.reading.join_line.Goals as goal

pub returns-in_default-clause-reported : goal.returns-in_default-clause-reported
returns-in_default-clause-reported g c = (refl, unstated_line g.F.Family.family c.args.line.now c.args.joins.now (sym c.if-is_passed_over.ensures) c.in_default.ensures.unread)

pub returns-in-Err-clause-reported : goal.returns-in-Err-clause-reported
returns-in-Err-clause-reported g c =
    rw c.line_fault.ensures
    (refused g.F.Family.family c.args.line.now c.args.joins.now (join_seen g.F.Family.bytes_of c.in-Some.join) (sym c.if-is_passed_over.ensures) c.in-Some.ensures.only c.args.number c.in-Err.fault c.in-Err.ensures.reported)
