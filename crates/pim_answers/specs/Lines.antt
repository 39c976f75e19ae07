-- The last line of each answer.
use Rattle.std.specs.Prelude.{ℕ, List, ◌++◌, codes}
use Rattle.pim_lines.specs.Pieces.{line}

-- `ok`, after the lines of a command that was done.
abbrev pub ok_line : List ℕ
ok_line = line (codes "ok")

-- `fault WORDS`, the one line of a command that was refused.
abbrev pub fault_line : List ℕ → List ℕ
fault_line words = line (codes "fault " ++ words)

-- The line of a command for which memory was refused.
abbrev pub memory_line : List ℕ
memory_line = fault_line (codes "memory")
