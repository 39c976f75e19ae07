use Rattle.pim_text.proofs.Words.{◌≡◌, ◌++◌, flat_map, set_text, message_text}
use Rattle.pim_text.proofs.join_prune_lines.message_text.Given as goal

-- what is there, with the texts of the sets that are left, is all
abbrev pub invariant-loop-set : goal.invariant-loop-set
invariant-loop-set g l = l.text.items ++ flat_map (set_text g.F.Family.family) l.set-iterator ≡ message_text g.F.Family.family l.message
