-- The command line that tables of options and commands give.
use Rattle.std.specs.Prelude.{List, []}
use Rattle.std.specs.List.{fold}
use Rattle.clap.specs.Words.{App, Rule, Shape, Text, new_app, with_rule, with_subcommand}
use Rattle.pim_words.specs.declared.commands.Form.{Form}
use Rattle.pim_words.specs.declared.commands.Form.TheVariants as form
use Rattle.pim_words.specs.declared.commands.Offer.{Offer}
use Rattle.pim_words.specs.declared.commands.OptionRow.{OptionRow}
use Rattle.pim_words.specs.CommandLine.{text_option, required_option, number_option, repeated_option, flag, words_rule, bare}

-- The option of this form and name.
abbrev pub rule_of_form : Form → Text → Rule
rule_of_form form.Text name = text_option name
rule_of_form form.Required name = required_option name
rule_of_form (form.Number low high) name = number_option name low high
rule_of_form form.Repeated name = repeated_option name
rule_of_form form.Flag name = flag name
rule_of_form form.Words name = words_rule name

-- The option, or the words, of a row.
abbrev pub rule_by : OptionRow → Rule
rule_by row = rule_of_form row.form row.name.now

-- A command with the options and words of these rows added in order.
abbrev pub with_rows : App → List OptionRow → App
with_rows command rows = fold (λ app row. with_rule app (rule_by row)) command rows

-- A command with its options and words.
abbrev pub shape_by : Offer → Shape
shape_by offer = (with_rows (new_app offer.name.now) offer.rows.now).top

-- The program with these commands added in order.
abbrev pub program : List Offer → App
program offers = fold (λ app offer. with_subcommand app (shape_by offer)) (record { top = bare; subs = [] }) offers
