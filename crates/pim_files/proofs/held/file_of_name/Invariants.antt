use Rattle.pim_files.proofs.Words.{◌≡◌, drop, held_content}
use Rattle.pim_files.proofs.held.file_of_name.Given as goal

-- the files that are left hold what all hold
abbrev pub invariant-loop-file : goal.invariant-loop-file
invariant-loop-file l = held_content (drop l.file-index l.files) l.name ≡ held_content l.files l.name
