-- The words of other modules that the lemmas and answers of this crate cite.
pub use Rattle.std.proofs.Common.{Bool, List, None, Option, Some, [], ap, append_assoc, arith, cond, decimal, drop}
pub use Rattle.std.proofs.Common.{drop-drop, false, get_or, inl, inr, length, length-append, length-take, nat_lt}
pub use Rattle.std.proofs.Common.{refl, subst, suc, sym, take, true, zero, ℕ, ◌%◌, ◌*◌, ◌++◌, ◌+◌, ◌-◌, ◌/◌, ◌<◌}
pub use Rattle.std.proofs.Common.{◌^◌, ◌∙◌, ◌∷◌, ◌≡◌, ◌≤◌}
pub use Rattle.std.proofs.lemmas.Bool.{cases_lt, cases_order, cond_both, false≢true, le-ltb, lt-ltb, ltb-false}
pub use Rattle.std.proofs.lemmas.Bool.{ltb-true, ne_eqb}
pub use Rattle.std.proofs.lemmas.Bool.Decides.{nat_tests}
pub use Rattle.std.proofs.lemmas.List.{get_or-append-add}
pub use Rattle.std.proofs.Math.Nat.{div-lt_iff_lt-mul, one-le-pow}
pub use Rattle.std.proofs.lemmas.Str.Parse.{IsNumeralModel, digit_at, digit_from_value, digits_value_short}
pub use Rattle.std.proofs.lemmas.Str.Parse.{numerals_by_value, tells_digits}
pub use Rattle.std.specs.Char.{digit_value}
pub use Rattle.std.specs.List.{AllByRecursion, position, position_or_len}
pub use Rattle.std.specs.Str.Parse.{AllDigits, digits_value}
pub use Rattle.pim_time.specs.Calendar.{days_in_month}
unfoldable pub use Rattle.pim_time.specs.Calendar.{date_of, next_day, next_month}
pub use Rattle.pim_time.specs.Dates.{IsCivil, first_day}
pub use Rattle.pim_time.specs.Pieces.{IsZoneLong}
pub use Rattle.pim_time.specs.Plain.{IsPlainDate, IsPlainPart, IsPlainSeconds, IsPlainTime}
pub use Rattle.pim_time.specs.Text.{IsDate, IsEnd, IsMark, IsNumber, IsOffset, IsPart, IsSeconds, IsSpan, IsTime}
pub use Rattle.pim_time.specs.Text.{IsUnit, IsZone, clock_text, day_text, millis_text, two_digits}
unfoldable pub use Rattle.pim_time.specs.Text.{date_text, marked_text, second_text, seconds_text}
pub use Rattle.pim_time.specs.declared.calendar.Date.{Date}
pub use Rattle.pim_time.specs.declared.reading.Time.{Time}
pub use Rattle.pim_time.specs.declared.reading.Time.TheVariants.{Epoch, Moment}
