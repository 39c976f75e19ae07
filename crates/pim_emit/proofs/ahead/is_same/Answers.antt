use Rattle.pim_emit.proofs.Words.{◌∙◌, ap, sym, is_eq, texts_ties}
use Rattle.pim_emit.proofs.ahead.is_same.Goals as goal

pub returns : goal.returns
returns g c =
    c.is_eq.ensures ∙ ap is_eq c.compare_addresses.ensures ∙ sym (texts_ties (g.F.Family.bytes_of c.args.one) (g.F.Family.bytes_of c.args.other))
