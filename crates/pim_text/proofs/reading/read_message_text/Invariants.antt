use Rattle.pim_text.specs.Lines.{lines}
use Rattle.pim_text.proofs.Went.{Went}
use Rattle.pim_text.proofs.reading.read_message_text.Given as goal

-- the lines before those that are left were read
abbrev pub invariant-loop-line : goal.invariant-loop-line
invariant-loop-line l = Went (lines l.text) l.line-iterator l.progress l.number
