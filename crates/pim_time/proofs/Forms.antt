-- A text has one form alone.
use Rattle.pim_time.proofs.Words.{◌≡◌, ◌∙◌, sym, ap, subst, refl, ℕ, ◌<◌, inl, inr, List, [], ◌∷◌, ◌++◌, arith}
use Rattle.pim_time.proofs.Words.{AllByRecursion, AllDigits, digit_from_value, marked_text, IsNumber, IsSeconds}
use Rattle.pim_time.proofs.Words.{IsUnit, IsSpan, IsDate}
use Rattle.std.specs.Prelude.{◌⊎◌}

-- No byte is a hyphen.
abbrev NoHyphen : List ℕ → Type 0
NoHyphen text = AllByRecursion (λ byte. byte ≡ 45 → ⊥) text

no_point : (front tail : List ℕ) → AllDigits 10 (front ++ 46 ∷ tail) → ⊥
no_point [] tail digits = omega (arith, digits.0)
no_point (byte ∷ front) tail digits = no_point front tail digits.1

digits_no_hyphen : (text : List ℕ) → AllDigits 10 text → NoHyphen text
digits_no_hyphen [] digits = tt
digits_no_hyphen (byte ∷ text) digits =
    let low = digit_from_value byte digits.0 in
    (λ is. omega (arith, low.0, is), digits_no_hyphen text digits.1)

seconds_no_hyphen : (front tail : List ℕ) → AllDigits 10 front → AllDigits 10 tail → NoHyphen (front ++ 46 ∷ tail)
seconds_no_hyphen [] tail front_digits digits = (λ is. omega (arith, is), digits_no_hyphen tail digits)
seconds_no_hyphen (byte ∷ front) tail front_digits digits =
    let low = digit_from_value byte front_digits.0 in
    (λ is. omega (arith, low.0, is), seconds_no_hyphen front tail front_digits.1 digits)

pub spelled_by_point : (text : List ℕ) (millis : ℕ) → (is : IsSeconds text millis) → text ≡ is.front ++ 46 ∷ is.fraction.tail
spelled_by_point text millis is = is.spelled ∙ ap (λ b. is.front ++ b) is.fraction.spelled

date_has_hyphen : (text : List ℕ) (millis : ℕ) → IsDate text millis → NoHyphen text → ⊥
unfolding marked_text
date_has_hyphen text millis is none =
    let all = subst NoHyphen is.spelled none in
    all.1.1.1.1.0 refl

-- ---- a unit is above the digits and the point

-- Each byte is at most a digit.
abbrev IsLow : List ℕ → Type 0
IsLow text = AllByRecursion (λ byte. byte < 58) text

digits_low : (text : List ℕ) → AllDigits 10 text → IsLow text
digits_low [] digits = tt
digits_low (byte ∷ text) digits =
    let low = digit_from_value byte digits.0 in
    (omega (arith, low.1), digits_low text digits.1)

seconds_low : (front tail : List ℕ) → AllDigits 10 front → AllDigits 10 tail → IsLow (front ++ 46 ∷ tail)
seconds_low [] tail front_digits digits = (omega arith, digits_low tail digits)
seconds_low (byte ∷ front) tail front_digits digits =
    let low = digit_from_value byte front_digits.0 in
    (omega (arith, low.1), seconds_low front tail front_digits.1 digits)

unit_above : (byte unit : ℕ) → IsUnit byte unit → 57 < byte
unit_above byte unit (inl is) = omega (arith, is.0)
unit_above byte unit (inr (inl is)) = omega (arith, is.0)
unit_above byte unit (inr (inr is)) = omega (arith, is.0)

not_low : (front : List ℕ) (byte : ℕ) → 57 < byte → IsLow (front ++ byte ∷ []) → ⊥
not_low [] byte above low = omega (arith, above, low.0)
not_low (first ∷ front) byte above low = not_low front byte above low.1

span_not_low : (text : List ℕ) (millis : ℕ) → IsSpan text millis → IsLow text → ⊥
span_not_low text millis is low = not_low is.front is.byte (unit_above is.byte is.unit is.named) (subst IsLow is.spelled low)

end_no_hyphen : (front : List ℕ) (byte : ℕ) → AllDigits 10 front → 57 < byte → NoHyphen (front ++ byte ∷ [])
end_no_hyphen [] byte digits above = (λ is. omega (arith, above, is), tt)
end_no_hyphen (first ∷ front) byte digits above =
    let low = digit_from_value first digits.0 in
    (λ is. omega (arith, low.0, is), end_no_hyphen front byte digits.1 above)

span_no_hyphen : (text : List ℕ) (millis : ℕ) → IsSpan text millis → NoHyphen text
span_no_hyphen text millis is =
    subst NoHyphen (sym is.spelled) (end_no_hyphen is.front is.byte is.digits.digits.1 (unit_above is.byte is.unit is.named))

-- ---- the pairs

number_or_seconds : (most n millis : ℕ) (text : List ℕ) → IsNumber most text n → IsSeconds text millis → ⊥
number_or_seconds most n millis text number is =
    no_point is.front is.fraction.tail (subst (AllDigits 10) (spelled_by_point text millis is) number.digits.1)

number_or_date : (most n millis : ℕ) (text : List ℕ) → IsNumber most text n → IsDate text millis → ⊥
number_or_date most n millis text number is = date_has_hyphen text millis is (digits_no_hyphen text number.digits.1)

pub seconds_or_date : (one other : ℕ) (text : List ℕ) → IsSeconds text one → IsDate text other → ⊥
seconds_or_date one other text is date =
    date_has_hyphen text other date (subst NoHyphen (sym (spelled_by_point text one is)) (seconds_no_hyphen is.front is.fraction.tail is.digits.digits.1 is.fraction.digits.digits.1))

pub number_or_span : (most n millis : ℕ) (text : List ℕ) → IsNumber most text n → IsSpan text millis → ⊥
number_or_span most n millis text number is = span_not_low text millis is (digits_low text number.digits.1)

-- The text names this moment since the first record.
abbrev pub IsMoment : List ℕ → ℕ → Type 0
IsMoment text millis = IsNumber 13 text millis ⊎ IsSpan text millis

pub moment_or_seconds : (n millis : ℕ) (text : List ℕ) → IsMoment text n → IsSeconds text millis → ⊥
moment_or_seconds n millis text (inl number) is = number_or_seconds 13 n millis text number is
moment_or_seconds n millis text (inr span) is =
    span_not_low text n span (subst IsLow (sym (spelled_by_point text millis is)) (seconds_low is.front is.fraction.tail is.digits.digits.1 is.fraction.digits.digits.1))

pub moment_or_date : (n millis : ℕ) (text : List ℕ) → IsMoment text n → IsDate text millis → ⊥
moment_or_date n millis text (inl number) is = number_or_date 13 n millis text number is
moment_or_date n millis text (inr span) is = date_has_hyphen text millis is (span_no_hyphen text n span)
