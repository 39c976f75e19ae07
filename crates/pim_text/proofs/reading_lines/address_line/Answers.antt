use Rattle.pim_text.proofs.Words.{ap, Some, [], ◌∷◌, AnyAddress}
use Rattle.pim_text.proofs.FieldEnds.{feed_is_led}
use Rattle.pim_text.proofs.reading_lines.address_line.Goals as goal

pub returns-in_err-named-clause-only : goal.returns-in_err-named-clause-only
returns-in_err-named-clause-only c a is = absurd (c.in_err-named.ensures.only a (10 ∷ []) feed_is_led is)

pub returns-then-is_end-clause-only : goal.returns-then-is_end-clause-only
returns-then-is_end-clause-only c a is = ap (λ (b : AnyAddress). Some b) (c.in_ok-named.ensures.only a (10 ∷ []) feed_is_led is).0

pub returns-else-is_end-clause-only : goal.returns-else-is_end-clause-only
returns-else-is_end-clause-only c a is =
    let ends = c.is_end.ensures.no (c.in_ok-named.ensures.only a (10 ∷ []) feed_is_led is).1 in
    let not_so = c.if-is_end.false in
    absurd cc
