use Rattle.std.proofs.Common.{ap, inl, inr, length, arith}
use Rattle.pim_time.proofs.reading.read_end.Goals as goal

pub returns-else-is_empty-clause-only : goal.returns-else-is_empty-clause-only
returns-else-is_empty-clause-only c millis is =
    elim is [
      | inl none ↦ absurd (let none_is = ap length none.0 in grind arith)
      | inr part ↦ c.read_part.ensures.only millis part
    ]
