use Rattle.pim_commands.proofs.Words.{◌≡◌, ◌++◌, drop, files_from, files_shown}
use Rattle.pim_commands.proofs.shown.files_shown.Given as goal

-- the names that were added and those that are left are all
abbrev pub invariant-loop-at : goal.invariant-loop-at
invariant-loop-at g l =
    l.files.items ++ files_shown l.json (files_from l.at l.further (drop l.at l.ports)) ≡ files_shown l.json (files_from 0 l.further l.ports)
