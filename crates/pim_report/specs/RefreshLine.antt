-- The line of a Refresh: the router is to send its demand again (RFC 7761, 4.11: t_periodic).
use Rattle.std.specs.Prelude.{ℕ, List, ◌++◌, codes, decimal}
use Rattle.pim_lines.specs.Pieces.{line}

-- `MOMENT refresh`, with the moment in milliseconds.
abbrev pub refresh_line : ℕ → List ℕ
refresh_line moment = line (decimal moment ++ codes " refresh")
