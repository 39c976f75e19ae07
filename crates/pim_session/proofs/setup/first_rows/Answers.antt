use Rattle.pim_session.proofs.Words.{sym, ap, ◌∙◌, family_of}
use Rattle.pim_session.proofs.setup.first_rows.Goals as goal

pub returns-in_ok-first_row-in-V4 : goal.returns-in_ok-first_row-in-V4
returns-in_ok-first_row-in-V4 c = c.in_ok-first_row-in-V4.ensures (ap family_of (sym c.first_address.ensures ∙ c.in-V4.is))

pub returns-in_ok-first_row-in-V6 : goal.returns-in_ok-first_row-in-V6
returns-in_ok-first_row-in-V6 c = c.in_ok-first_row-in-V6.ensures (ap family_of (sym c.first_address.ensures ∙ c.in-V6.is))
