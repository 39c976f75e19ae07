use Rattle.pim_text.proofs.Written.{Writing}
use Rattle.pim_text.proofs.spelling.spell_join_prune.Given as goal

-- the lines before those that are left were written
abbrev pub invariant-loop-line : goal.invariant-loop-line
invariant-loop-line g l = Writing g.F.Family.family l.text l.line-iterator l.expected l.body.items
