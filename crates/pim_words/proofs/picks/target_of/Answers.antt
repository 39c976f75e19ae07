use Rattle.pim_words.proofs.Words.{None, Some, refl, lit<, split_parts}
use Rattle.pim_words.proofs.Picking.{no_port}
use Rattle.pim_words.proofs.picks.target_of.Goals as goal

pub returns-in_default : goal.returns-in_default
returns-in_default c = (refl, split_parts 61 c.args.value.now None c.in_default.ensures.cases (lit< tt))

pub returns-in-Some-read_port_number : goal.returns-in-Some-read_port_number
returns-in-Some-read_port_number c =
    let parts = split_parts 61 c.args.value.now (Some (c.in-Some.port, c.in-Some.text)) c.in-Some.ensures.cases (lit< tt) in
    (c.in-Some.port.now, parts.0, parts.1, c.in-Some-read_port_number.ensures)

pub returns-in-None : goal.returns-in-None
returns-in-None c =
    let parts = split_parts 61 c.args.value.now (Some (c.in-Some.port, c.in-Some.text)) c.in-Some.ensures.cases (lit< tt) in
    no_port c.args.count c.args.value.now c.in-Some.port.now c.in-Some.text.now parts.0 parts.1 c.in-None.ensures
