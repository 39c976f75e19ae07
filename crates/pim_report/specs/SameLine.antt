-- The line that says whether two demands are the same.
use Rattle.std.specs.Prelude.{ℕ, Bool, true, false, List, codes}
use Rattle.pim_lines.specs.Pieces.{line}

-- `same` or `different`.
abbrev pub same_line : Bool → List ℕ
same_line true = line (codes "same")
same_line false = line (codes "different")
