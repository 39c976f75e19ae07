use Rattle.pim_time.proofs.Words.{inl, inr}
use Rattle.pim_time.proofs.Forms.{number_or_span}
use Rattle.pim_time.proofs.Points.{not_some}
use Rattle.pim_time.proofs.reading.read_moment.Goals as goal

pub returns-in-Some-clause-only : goal.returns-in-Some-clause-only
returns-in-Some-clause-only c millis is =
    elim is [
      | inl number ↦ c.in-Some.ensures.only millis number
      | inr span ↦ absurd (number_or_span 13 _ millis _ c.in-Some.ensures.read span)
    ]

pub returns-in-None-clause-only : goal.returns-in-None-clause-only
returns-in-None-clause-only c millis is =
    elim is [
      | inl number ↦ absurd (not_some millis (c.in-None.ensures.only millis number))
      | inr span ↦ c.read_span.ensures.only millis span
    ]
