use Rattle.pim_text.proofs.Words.{◌++◌, bit, delays_text}
use Rattle.pim_text.proofs.reading_lines.delays_line.Goals as goal

pub returns-in_err-rest-clause-only : goal.returns-in_err-rest-clause-only
returns-in_err-rest-clause-only c d (p, o, is) = absurd (c.in_err-rest.ensures (bit d.t ++ delays_text d) is)
