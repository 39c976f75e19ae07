use Rattle.pim_files.specs.LineFile.{lines_of}
use Rattle.pim_files.specs.RoutesFile.{Adds}
use Rattle.pim_files.proofs.LineByLine.{Went}
use Rattle.pim_files.proofs.routes.reading.add_lines.Given as goal

-- the rows of the lines before those that are left were added
abbrev pub invariant-loop-line : goal.invariant-loop-line
invariant-loop-line g l = Went (Adds g.F.Family.family) (lines_of l.file) l.line-iterator l.fn.routes l.routes l.number
