-- The plain forms of a time, which were the only ones at first: milliseconds, seconds with one to
-- three digits after the point, and UTC dates that may have such digits.
use Rattle.std.specs.Prelude.{◌≡◌, ℕ, ◌+◌, ◌-◌, ◌*◌, ◌/◌, ◌^◌, ◌<◌, ◌⊎◌, List, [], ◌++◌}
use Rattle.std.specs.Prelude.{length, codes}
use Rattle.pim_time.specs.Calendar.{date_of}
use Rattle.pim_time.specs.Text.{IsNumber, second_text}
use Rattle.pim_time.specs.declared.reading.Time.{Time}
use Rattle.pim_time.specs.declared.reading.Time.TheVariants.{Moment, Epoch}

-- The text is a point and one to three digits, which write this part of a second in milliseconds.
pub record IsPlainPart (text : List ℕ) (millis : ℕ) : Type 0 where
  pub tail : List ℕ
  pub number : ℕ
  pub digits : IsNumber 3 tail number
  pub spelled : text ≡ codes "." ++ tail
  pub value : millis ≡ number * 10 ^ (3 - length tail)

-- The text is one to ten digits, a point and one to three digits: seconds.
pub record IsPlainSeconds (text : List ℕ) (millis : ℕ) : Type 0 where
  pub front : List ℕ
  pub behind : List ℕ
  pub seconds : ℕ
  pub part : ℕ
  pub digits : IsNumber 10 front seconds
  pub fraction : IsPlainPart behind part
  pub spelled : text ≡ front ++ behind
  pub value : millis ≡ seconds * 1000 + part

-- The text is a UTC date in capitals, `YYYY-MM-DDTHH:MM:SSZ` or `YYYY-MM-DDTHH:MM:SS.fZ` with one
-- to three digits after the point (RFC 3339, 5.6), of a year below 10000.
pub record IsPlainDate (text : List ℕ) (millis : ℕ) : Type 0 where
  pub seconds : ℕ
  pub behind : List ℕ
  pub part : ℕ
  pub year : (date_of (seconds / 86400)).year < 10000
  pub end : ((behind ≡ []) × (part ≡ 0)) ⊎ IsPlainPart behind part
  pub spelled : text ≡ second_text seconds ++ behind ++ codes "Z"
  pub value : millis ≡ seconds * 1000 + part

-- The text names this time in a plain form.
abbrev pub IsPlainTime : List ℕ → Time → Type 0
IsPlainTime text (Moment millis) = IsNumber 13 text millis
IsPlainTime text (Epoch millis) = IsPlainSeconds text millis ⊎ IsPlainDate text millis
