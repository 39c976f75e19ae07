-- Standard input among the files of a command. It can be read once.
use Rattle.std.specs.Prelude.{ℕ, ◌+◌, ◌&&◌, Bool, false, cond, nat_lt, count_by, codes, is_some, Option, None}
use Rattle.std.specs.Borrow.{Bor}
use Rattle.std.specs.List.{list_any}
use Rattle.std.specs.Option.{option_map_or}
use Rattle.std.specs.Str.{bytes_eq}
use Rattle.clap.specs.Words.{Text}
use Rattle.pim_lines.specs.declared.either.AnyAddress.{AnyAddress}
use Rattle.pim_words.specs.declared.task.Captures.{Captures}
use Rattle.pim_words.specs.declared.task.Task.{Task}
use Rattle.pim_words.specs.declared.task.Task.TheVariants.{Check, CheckPartial, Build, Replay, Trace, Audit, Same, Mirror, Emit, Change}

-- The name of standard input among those of files, where any container is read.
abbrev pub input_name : Text
input_name = codes "-"

-- Whether the name is that of standard input.
abbrev pub is_input : Text → Bool
is_input name = bytes_eq name input_name

-- Whether the file is given, and is standard input.
abbrev pub is_given_input : Option (Bor Text) → Bool
is_given_input file = option_map_or (λ name. is_input name.now) file false

-- Whether any container is read. Each port has a link then.
abbrev pub reads_any : {A : Type 0} → Captures A → Bool
reads_any captures = list_any (λ port. is_some port.link) captures.ports.items

-- How many files have the name of standard input: that of routes, that of local joins, those of
-- ports, and further ones.
abbrev pub input_count : {A : Type 0} → Captures A → Option (Bor Text) → ℕ
input_count captures local =
    cond (is_given_input captures.routes) 1 0 + cond (is_given_input local) 1 0
    + count_by (λ port. is_input port.file.now) captures.ports.items
    + count_by (λ more. is_input more.file.now) captures.more.items

-- Whether a second file of these is standard input.
abbrev pub reads_input_twice : Captures AnyAddress → Option (Bor Text) → Bool
reads_input_twice captures local = reads_any captures && nat_lt 1 (input_count captures local)

-- The same of a task. That of one message has no files, and only an audit has one of local joins.
abbrev pub names_input_twice : Task AnyAddress → Bool
names_input_twice (Check source destination) = false
names_input_twice (CheckPartial source destination) = false
names_input_twice (Build source destination) = false
names_input_twice (Replay captures) = reads_input_twice captures None
names_input_twice (Trace captures tracing) = reads_input_twice captures None
names_input_twice (Audit captures auditing tracing) = reads_input_twice captures auditing.local
names_input_twice (Same captures writing) = reads_input_twice captures None
names_input_twice (Mirror captures writing) = reads_input_twice captures None
names_input_twice (Emit captures writing) = reads_input_twice captures None
names_input_twice (Change captures writing) = reads_input_twice captures None
