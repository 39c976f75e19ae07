use Rattle.pim_words.proofs.Words.{◌∙◌, found_of, first_value-rows}
use Rattle.pim_words.proofs.given.option_of.Goals as goal

pub returns : goal.returns
returns c = c.get_str.ensures ∙ first_value-rows (found_of c.args.options.now) c.args.name.now
