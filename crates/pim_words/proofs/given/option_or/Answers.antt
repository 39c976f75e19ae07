use Rattle.clap.specs.Words.{found_of, rows_of}
use Rattle.pim_words.proofs.Values.{value_or}
use Rattle.pim_words.proofs.given.option_or.Goals as goal

pub returns : goal.returns
returns c = value_or c.args.name.now (rows_of (found_of c.args.options.now)) c.option_of.result c.args.default c.unwrap_or.result c.option_of.ensures c.unwrap_or.ensures
