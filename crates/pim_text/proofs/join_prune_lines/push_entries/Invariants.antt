use Rattle.pim_text.proofs.Words.{◌≡◌, ◌++◌, flat_map, entry_line}
use Rattle.pim_text.proofs.join_prune_lines.push_entries.Given as goal

-- what is there, with the lines of the entries that are left, is all
abbrev pub invariant-loop-entry : goal.invariant-loop-entry
invariant-loop-entry g l =
    l.text.items ++ flat_map (entry_line g.F.Family.family l.list) l.entry-iterator ≡ l.fn.text.items ++ flat_map (entry_line g.F.Family.family l.list) l.fn.entries
