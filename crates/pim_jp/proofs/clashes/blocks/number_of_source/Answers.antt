use Rattle.pim_jp.proofs.Words.{◌∙◌, ap, sym, nat_eq, number_of}
use Rattle.pim_jp.proofs.SortedSources.{same_number}
use Rattle.pim_jp.proofs.clashes.blocks.number_of_source.Goals as goal

pub returns-clause-same : goal.returns-clause-same
returns-clause-same g c = λ other is.
    same_number c.numbers_are_in_order.ensures g.F.Family.family other (g.F.Family.bytes_of c.args.source) is c.address_has_its_bytes.ensures
    ∙ ap (λ n. nat_eq (number_of other) n) (sym c.number.ensures)
