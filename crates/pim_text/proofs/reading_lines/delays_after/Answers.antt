use Rattle.std.proofs.Common.{sym, Some}
use Rattle.pim_text.proofs.reading_lines.delays_after.Goals as goal

pub returns-in_err-two-clause-only : goal.returns-in_err-two-clause-only
returns-in_err-two-clause-only c d t p o is = absurd (c.in_err-two.ensures.only d.propagation d.override_ms p o is)

pub returns-clause-only : goal.returns-clause-only
returns-clause-only c d t p o is =
    let same = c.in_ok-two.ensures.only d.propagation d.override_ms p o is in
    let bit = sym t in
    λ i. Some (record { t = bit i; propagation = same.0 i; override_ms = same.1 i })
