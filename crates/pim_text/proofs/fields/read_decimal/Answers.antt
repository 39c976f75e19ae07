use Rattle.pim_text.proofs.Words.{◌≡◌, ◌∙◌, sym, ap, subst, ℕ, inl, inr, Some, decimal, arith, IsUtf8}
use Rattle.pim_text.proofs.Bytes.{decimal_is_text}
use Rattle.pim_text.proofs.Decimals.{parsed, same_ok, written_again}
use Rattle.pim_text.proofs.fields.read_decimal.Goals as goal

pub returns-in_default-clause-only : goal.returns-in_default-clause-only
returns-in_default-clause-only c n small is =
    absurd (c.in_default.ensures.cases.0 (subst IsUtf8 (sym is) (decimal_is_text n (omega (arith, c.ranges.limit.fits, small)))))

pub returns-in_default-parse-clause-only : goal.returns-in_default-parse-clause-only
returns-in_default-parse-clause-only c n small is =
    absurd (c.in_default-parse.not-Ok n (parsed n c.args.limit c.args.digits.now c.in-Ok.text.now c.parse.result small (omega (arith, c.ranges.limit.fits)) is c.in-Ok.ensures.cases.0 c.parse.ensures.value.0))

pub returns-then-number-limit-clause-only : goal.returns-then-number-limit-clause-only
returns-then-number-limit-clause-only c n small is =
    let read = parsed n c.args.limit c.args.digits.now c.in-Ok.text.now c.parse.result small (omega (arith, c.ranges.limit.fits)) is c.in-Ok.ensures.cases.0 c.parse.ensures.value.0 in
    ap (λ (m : ℕ). Some m) (same_ok c.in-Ok-parse.number n c.parse.result c.in-Ok-parse.is read)

pub returns-else-is_so-clause-only : goal.returns-else-is_so-clause-only
returns-else-is_so-clause-only c n small is =
    let read = parsed n c.args.limit c.args.digits.now c.in-Ok.text.now c.parse.result small (omega (arith, c.ranges.limit.fits)) is c.in-Ok.ensures.cases.0 c.parse.ensures.value.0 in
    let same : c.in-Ok-parse.number ≡ n = same_ok c.in-Ok-parse.number n c.parse.result c.in-Ok-parse.is read in
    absurd (elim c.else-is_so.either [
      | inl above ↦ omega (arith, above.1, same, small)
      | inr not_so ↦ written_again c.args.digits.now c.as_bytes.result.now c.eq-is_so.result c.eq-is_so.ensures (c.as_bytes.ensures.value ∙ (c.format.ensures.text ∙ (ap decimal same ∙ sym is))) not_so
    ])
