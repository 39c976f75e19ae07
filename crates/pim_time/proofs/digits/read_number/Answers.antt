use Rattle.pim_time.proofs.Words.{◌≡◌, sym, subst, ℕ, ◌^◌, ◌<◌, ◌≤◌, List, get_or, take, arith, length-take}
use Rattle.pim_time.proofs.Words.{digit_value, AllDigits, digits_value, nat_tests, digit_at}
use Rattle.std.proofs.lemmas.Int.Digits.{digits_value_more, digits_more}
use Rattle.pim_time.proofs.Numbers.{few_digits}
use Rattle.pim_time.proofs.digits.read_number.Goals as goal

-- The number so far is small.
so_far : (text : List ℕ) (i n k : ℕ) → AllDigits 10 (take i text) → n ≡ digits_value 10 (take i text) → i ≤ k → n < 10 ^ k
so_far text i n k digits is small =
    subst (λ m. m < 10 ^ k) (sym is) (few_digits (take i text) k digits (omega (arith, length-take i text)))

pub returns-then-not-is_ascii_digit-clause-only : goal.returns-then-not-is_ascii_digit-clause-only
returns-then-not-is_ascii_digit-clause-only c n is =
    let digit = digit_at c.args.text.now c.loop-byte.byte-index is.digits.1 c.loop-byte-test.true in
    absurd (grind (arith, nat_tests, digit))

pub overflow_mul-number : goal.overflow_mul-number
overflow_mul-number c =
    let small = so_far c.args.text.now c.loop-byte.byte-index c.loop-byte.number 13 c.loop-byte.invariant.0 c.loop-byte.invariant.1 (omega arith) in
    omega (arith, small)

pub overflow_add-number : goal.overflow_add-number
overflow_add-number c =
    let small = so_far c.args.text.now c.loop-byte.byte-index c.loop-byte.number 13 c.loop-byte.invariant.0 c.loop-byte.invariant.1 (omega arith) in
    omega (arith, small)

pub loop-byte-preserved : goal.loop-byte-preserved
loop-byte-preserved c =
    let text = c.args.text.now in
    let i = c.loop-byte.byte-index in
    let digit : digit_value (get_or text i 0) ≡ c.from.result = grind (arith, nat_tests) in
    let below : digit_value (get_or text i 0) < 10 = grind (arith, nat_tests) in (
      digits_more 10 text i c.loop-byte-test.true c.loop-byte.invariant.0 below,
      omega (arith, digits_value_more 10 text i c.loop-byte-test.true, c.loop-byte.invariant.1, digit),
    )

pub returns-clause-below : goal.returns-clause-below
returns-clause-below c =
    so_far c.args.text.now c.loop-byte.byte-index c.loop-byte.number c.args.most c.loop-byte.invariant.0 c.loop-byte.invariant.1 (omega arith)
