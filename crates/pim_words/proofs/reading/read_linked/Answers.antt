use Rattle.pim_words.proofs.Words.{err_from_is_err_and, found_of, rows_of}
use Rattle.pim_words.proofs.Linking.{linked_ports}
use Rattle.pim_words.proofs.Orders.{wrong_words_of}
use Rattle.pim_words.proofs.reading.read_linked.Goals as goal

pub returns-in_err-labelled : goal.returns-in_err-labelled
returns-in_err-labelled c =
    let p = err_from_is_err_and c.from_residual-in_err-labelled.result c.from_residual-in_err-labelled.ensures.1 in
    rw (p.1, p.2)
    (wrong_words_of c.args.kind (rows_of (found_of c.args.options.now)) c.in_ok-links.links _ c.in_ok-links.ensures (rw c.values_of.ensures at c.in_err-labelled.ensures))

pub returns : goal.returns
returns c =
    linked_ports c.args.kind (rows_of (found_of c.args.options.now)) c.in_ok-links.links c.in_ok-labelled.labelled.ports.items c.deref.result.now c.in_ok-ports.ports.items
    c.in_ok-labelled.labelled.more.items c.in_ok-labelled.labelled.names.items c.deref.ensures.value c.in_ok-links.ensures (rw c.values_of.ensures at c.in_ok-labelled.ensures) c.in_ok-ports.ensures
