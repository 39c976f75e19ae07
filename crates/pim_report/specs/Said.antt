-- A short text that is put together without memory.
use Rattle.std.specs.Prelude.{ℕ, List, [], ◌++◌}
use Rattle.pim_report.specs.declared.said.Said.{Said}
use Rattle.pim_lines.specs.Pieces.{number_or}

-- Words, a name, more words and a number, as far as they are present.
abbrev pub said_text : Said → List ℕ
said_text said = said.words.now ++ (said.name.now ++ (said.more.now ++ number_or [] said.number))
