use Rattle.pim_text.proofs.OneEntry.{only_star, only_source, only_rpt, no_entry}
use Rattle.pim_text.proofs.FieldEnds.{not_some}
use Rattle.pim_text.proofs.reading_lines.read_entry.Goals as goal

pub returns-in-Some-clause-only : goal.returns-in-Some-clause-only
returns-in-Some-clause-only c entry is = only_star c.args.text.now c.in-Some.rp c.in-Some.ensures.read c.in-Some.ensures.only entry is

pub returns-in-Some-address_line-clause-only : goal.returns-in-Some-address_line-clause-only
returns-in-Some-address_line-clause-only c entry is = only_source c.args.text.now c.in-Some-address_line.source c.in-Some-address_line.ensures.read c.in-Some-address_line.ensures.only entry is

pub returns-in-Some-address_line-2-clause-only : goal.returns-in-Some-address_line-2-clause-only
returns-in-Some-address_line-2-clause-only c entry is = only_rpt c.args.text.now c.in-Some-address_line-2.source c.in-Some-address_line-2.ensures.read c.in-Some-address_line-2.ensures.only entry is

pub returns-in-None-clause-only : goal.returns-in-None-clause-only
returns-in-None-clause-only c entry is =
    absurd (no_entry c.args.text.now (λ b so. not_some b (c.in_default.ensures.only b so)) (λ b so. not_some b (c.in_default-address_line.ensures.only b so))
    (λ b so. not_some b (c.in-None.ensures.only b so)) entry is)
