use Rattle.pim_files.specs.LineFile.{lines_of}
use Rattle.pim_files.specs.LocalFile.{Adds}
use Rattle.pim_files.proofs.LineByLine.{Went}
use Rattle.pim_files.proofs.local.reading.join_lines.Given as goal

-- the joins of the lines before those that are left were added
abbrev pub invariant-loop-line : goal.invariant-loop-line
invariant-loop-line g l = Went (Adds g.F.Family.family) (lines_of l.file) l.line-iterator l.fn.joins l.joins l.number
