use Rattle.pim_words.proofs.Words.{◌≡◌, ◌∙◌, ap, length, List, Text, found_of, rows_of, word_count, port_words}
use Rattle.pim_words.proofs.Further.{counted}
use Rattle.pim_words.proofs.links.read_part.Goals as goal

pub returns : goal.returns
returns c =
    let count : c.count_ports-count.result ≡ word_count c.args.is_any (rows_of (found_of c.args.options.now)) =
    c.count_ports-count.ensures ∙ counted c.args.is_any c.values_of.result.now ∙ ap (λ (words : List Text). length (port_words c.args.is_any words)) c.values_of.ensures in
    rw (← count, ← c.values_of-2.ensures) c.read_picks.ensures
