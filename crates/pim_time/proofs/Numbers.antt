-- Digits and the numbers that they write.
use Rattle.pim_time.proofs.Words.{sym, subst, ℕ, ◌*◌, ◌/◌, ◌^◌, ◌<◌, ◌≤◌, List, length, AllDigits, digits_value}
use Rattle.pim_time.proofs.Words.{IsNumeralModel, arith, div-lt_iff_lt-mul, one-le-pow}
use Rattle.pim_time.proofs.Words.{numerals_by_value, tells_digits, digits_value_short, IsNumber}

own : IsNumeralModel (AllDigits 10) (digits_value 10)
own = numerals_by_value (AllDigits 10) tells_digits

-- Few digits write a small number.
pub few_digits : (text : List ℕ) (k : ℕ) → AllDigits 10 text → length text ≤ k → digits_value 10 text < 10 ^ k
few_digits text k digits short = digits_value_short own text k digits short

pub small_number : (most : ℕ) (text : List ℕ) (n k : ℕ) → IsNumber most text n → length text ≤ k → n < 10 ^ k
small_number most text n k is short = subst (λ m. m < 10 ^ k) (sym is.value) (few_digits text k is.digits.1 short)

pub power_above : (k : ℕ) → 0 < 10 ^ k
power_above k = one-le-pow k 10 (omega arith)

-- The digits after a point write less than a second.
pub part_below : (number k : ℕ) → number < 10 ^ k → number * 1000 / 10 ^ k < 1000
part_below number k small = (div-lt_iff_lt-mul (power_above k)).1 (omega (arith, small))
