use Rattle.pim_words.proofs.Words.{◌∙◌, found_of, rows_of, raw_values-rows}
use Rattle.pim_words.proofs.Values.{values_are}
use Rattle.pim_words.proofs.given.values_of.Goals as goal

pub returns : goal.returns
returns c =
    values_are c.args.name.now (rows_of (found_of c.args.options.now)) c.get_raw.result c.unwrap_or_default.result (c.get_raw.ensures ∙ raw_values-rows (found_of c.args.options.now) c.args.name.now)
    c.unwrap_or_default.ensures
