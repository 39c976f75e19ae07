-- The command line that `clap` reads the words by.
use Rattle.std.specs.Prelude.{ℕ, [], ◌∷◌, Some, true, codes}
use Rattle.clap.specs.Words.{App, Rule, Shape, Text, new_app, new_rule, with_rule, with_subcommand}
use Rattle.clap.specs.Simple.{new_shape}
use Rattle.clap.specs.declared.builder.action.ArgAction.TheVariants.{Append, SetTrue}
use Rattle.clap.specs.declared.builder.value_parser.ValueParser.TheVariants.{Unsigned}

-- ---- options

-- An option that takes one text.
abbrev pub text_option : Text → Rule
text_option name = record (new_rule name) { long = Some name; value_names = 1 }

-- An option that must be given.
abbrev pub required_option : Text → Rule
required_option name = record (text_option name) { required = true }

-- An option that takes a number from `low` to `high`.
abbrev pub number_option : Text → ℕ → ℕ → Rule
number_option name low high = record (text_option name) { parser = Some (Unsigned low high) }

-- An option that takes one text and may be given several times.
abbrev pub repeated_option : Text → Rule
repeated_option name = record (text_option name) { action = Some Append }

-- An option without a value.
abbrev pub flag : Text → Rule
flag name = record (new_rule name) { long = Some name; action = Some SetTrue }

-- The words that aren't options, under this name.
abbrev pub words_rule : Text → Rule
words_rule name = record (new_rule name) { action = Some Append; value_names = 1 }

-- The end of a run, and what a port may hold: `[--limit N] [--after MS] [--at TIME]`.
abbrev pub with_ends : App → App
with_ends command =
    with_rule (with_rule (with_rule command (number_option (codes "limit") 1 100000))
    (number_option (codes "after") 0 1000000000)) (text_option (codes "at"))

-- The links of ports: `[--vlan [P=]VLAN].. [--interface [P=]N]..`.
abbrev pub with_links : App → App
with_links command =
    with_rule (with_rule command (repeated_option (codes "vlan"))) (repeated_option (codes "interface"))

-- The options of a run: its end, `[--input KIND]`, the links of ports, and `WORD...`.
abbrev pub with_run_options : App → App
with_run_options command =
    with_rule (with_links (with_rule (with_ends command) (text_option (codes "input")))) (words_rule (codes "words"))

-- The addresses of a command that writes messages: `--rp A --upstream A --own A`.
abbrev pub with_addresses : App → App
with_addresses command =
    with_rule (with_rule (with_rule command (required_option (codes "rp"))) (required_option (codes "upstream")))
    (required_option (codes "own"))

-- The other options of such a command: `[--routes FILE] [--holdtime S] [--budget N]`.
abbrev pub with_writing : App → App
with_writing command =
    with_rule (with_rule (with_rule command (text_option (codes "routes"))) (number_option (codes "holdtime") 99 65535))
    (number_option (codes "budget") 70 65000)

-- What a trace is about: `[--from TIME] [--group G].. [--source S]..`.
abbrev pub with_choices : App → App
with_choices command =
    with_rule (with_rule (with_rule command (text_option (codes "from"))) (repeated_option (codes "group")))
    (repeated_option (codes "source"))

-- What a trace shows: what it is about, and `[--time FORM] [--all] [--state] [--json]`.
abbrev pub with_shown : App → App
with_shown command =
    with_rule (with_rule (with_rule (with_rule (with_choices command) (text_option (codes "time")))
    (flag (codes "all"))) (flag (codes "state"))) (flag (codes "json"))

-- What an audit shows: `[--from TIME] [--group G].. [--time FORM] [--json]`.
abbrev pub with_audit_shown : App → App
with_audit_shown command =
    with_rule (with_rule (with_rule (with_rule command (text_option (codes "from"))) (repeated_option (codes "group")))
    (text_option (codes "time"))) (flag (codes "json"))

-- ---- commands

-- `check [--src A] [--dst A] [--partial]`.
abbrev pub check : Shape
check = record (new_shape (codes "check")) {
  rules = text_option (codes "src") ∷ text_option (codes "dst") ∷ flag (codes "partial") ∷ [];
}

-- `build [--src A] [--dst A]`.
abbrev pub build : Shape
build = record (new_shape (codes "build")) {
  rules = text_option (codes "src") ∷ text_option (codes "dst") ∷ [];
}

-- `replay [--rp A] [--routes FILE]`, and the options of a run.
abbrev pub replay : Shape
replay = (with_run_options (with_rule (with_rule (new_app (codes "replay")) (text_option (codes "rp")))
    (text_option (codes "routes")))).top

-- `trace [--rp A] [--routes FILE]`, the options of a run, and what is shown.
abbrev pub trace : Shape
trace = (with_shown (with_run_options (with_rule (with_rule (new_app (codes "trace")) (text_option (codes "rp")))
    (text_option (codes "routes"))))).top

-- `audit --upstream A [--rp A] [--routes FILE] [--local FILE] [--grace MS]`, a run's options, and
-- what is shown.
abbrev pub audit : Shape
audit =
    (with_audit_shown (with_run_options (with_rule (with_rule (with_rule (with_rule (with_rule
    (new_app (codes "audit")) (required_option (codes "upstream"))) (text_option (codes "rp")))
    (text_option (codes "routes"))) (text_option (codes "local"))) (number_option (codes "grace") 0 1000000000)))).top

-- A command that writes messages: `same`, `mirror`, `emit` or `change`.
abbrev pub writing : Text → Shape
writing name = (with_run_options (with_writing (with_addresses (new_app name)))).top

-- `session`, which has no options and no words.
abbrev pub session : Shape
session = new_shape (codes "session")

-- The program without its commands. One command must be given, and `--version` is known.
abbrev pub bare : Shape
bare = record (new_shape (codes "pimtree")) {
  has_version = true;
  disable_help_subcommand = true;
  subcommand_required = true;
}

-- The program with the commands on one message.
abbrev pub message_commands : App
message_commands = with_subcommand (with_subcommand (record { top = bare; subs = [] }) check) build

-- The program with the commands that need no writer of messages.
abbrev pub reading_commands : App
reading_commands = with_subcommand (with_subcommand (with_subcommand message_commands replay) trace) audit

-- The program with all its commands but `session`.
abbrev pub writing_commands : App
writing_commands =
    with_subcommand (with_subcommand (with_subcommand (with_subcommand reading_commands (writing (codes "same")))
    (writing (codes "mirror"))) (writing (codes "emit"))) (writing (codes "change"))

-- The program with all its commands.
abbrev pub pimtree : App
pimtree = with_subcommand writing_commands session
