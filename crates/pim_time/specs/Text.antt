-- The texts of times that are written, and those that are read.
use Rattle.std.specs.Prelude.{◌≡◌, ℕ, ◌+◌, ◌*◌, ◌/◌, ◌%◌, ◌^◌, ◌<◌, ◌≤◌, ◌⊎◌}
use Rattle.std.specs.Prelude.{List, [], ◌∷◌, ◌++◌, length, codes, decimal}
use Rattle.std.specs.Str.Parse.{IsNumeral, digits_value}
use Rattle.pim_time.specs.Calendar.{date_of}
use Rattle.pim_time.specs.declared.calendar.Date.{Date}
use Rattle.pim_time.specs.declared.reading.Time.{Time}
use Rattle.pim_time.specs.declared.reading.Time.TheVariants.{Moment, Epoch}

-- ---- texts that are written

-- The two digits of a number below 100.
abbrev pub two_digits : ℕ → List ℕ
two_digits number = (48 + number / 10) ∷ (48 + number % 10) ∷ []

-- `YYYY-MM-DD`, of a year below 10000.
abbrev pub day_text : Date → List ℕ
day_text date = two_digits (date.year / 100) ++ two_digits (date.year % 100) ++ codes "-"
    ++ two_digits date.month ++ codes "-" ++ two_digits date.day

-- `HH:MM:SS`, of the seconds since the day began.
abbrev pub clock_text : ℕ → List ℕ
clock_text seconds = two_digits (seconds / 3600) ++ codes ":" ++ two_digits (seconds / 60 % 60) ++ codes ":"
    ++ two_digits (seconds % 60)

-- `YYYY-MM-DD`, this byte and `HH:MM:SS`, of the seconds since 1970-01-01T00:00:00.
unfoldable pub marked_text : ℕ → ℕ → List ℕ
marked_text mark seconds =
    day_text (date_of (seconds / 86400)) ++ mark ∷ clock_text (seconds % 86400)

-- `YYYY-MM-DDTHH:MM:SS`, of the seconds since 1970-01-01T00:00:00Z.
unfoldable pub second_text : ℕ → List ℕ
second_text seconds = day_text (date_of (seconds / 86400)) ++ codes "T" ++ clock_text (seconds % 86400)

-- A point and three digits, of the milliseconds since the second began.
abbrev pub millis_text : ℕ → List ℕ
millis_text millis = codes "." ++ (48 + millis / 100) ∷ two_digits (millis % 100)

-- The UTC date of the milliseconds since 1970, `YYYY-MM-DDTHH:MM:SS.fffZ` (RFC 3339, 5.6).
unfoldable pub date_text : ℕ → List ℕ
date_text millis = second_text (millis / 1000) ++ millis_text (millis % 1000) ++ codes "Z"

-- The seconds since 1970, with three digits after the point.
unfoldable pub seconds_text : ℕ → List ℕ
seconds_text millis = decimal (millis / 1000) ++ millis_text (millis % 1000)

-- ---- texts that are read

-- The text is one to `most` digits, which write this number.
pub record IsNumber (most : ℕ) (text : List ℕ) (number : ℕ) : Type 0 where
  pub digits : IsNumeral 10 text
  pub short : length text ≤ most
  pub value : number ≡ digits_value 10 text

-- The text is a point and one to nine digits, which write this part of a second. It is in
-- milliseconds; what is beyond them is cut.
pub record IsPart (text : List ℕ) (millis : ℕ) : Type 0 where
  pub tail : List ℕ
  pub number : ℕ
  pub digits : IsNumber 9 tail number
  pub spelled : text ≡ codes "." ++ tail
  pub value : millis ≡ number * 1000 / 10 ^ length tail

-- The text is such a part, or it is empty, which is no millisecond.
abbrev pub IsEnd : List ℕ → ℕ → Type 0
IsEnd text millis = ((text ≡ []) × (millis ≡ 0)) ⊎ IsPart text millis

-- The text is one to ten digits, a point and one to nine digits: seconds.
pub record IsSeconds (text : List ℕ) (millis : ℕ) : Type 0 where
  pub front : List ℕ
  pub behind : List ℕ
  pub seconds : ℕ
  pub part : ℕ
  pub digits : IsNumber 10 front seconds
  pub fraction : IsPart behind part
  pub spelled : text ≡ front ++ behind
  pub value : millis ≡ seconds * 1000 + part

-- The byte is a unit of time, which has this many milliseconds: `s`, `m` or `h`.
abbrev pub IsUnit : ℕ → ℕ → Type 0
IsUnit byte millis =
    ((byte ≡ 115) × (millis ≡ 1000))
    ⊎ (((byte ≡ 109) × (millis ≡ 60000))
    ⊎ ((byte ≡ 104) × (millis ≡ 3600000)))

-- The text is one to ten digits and a unit, below 10^15 milliseconds.
pub record IsSpan (text : List ℕ) (millis : ℕ) : Type 0 where
  pub front : List ℕ
  pub byte : ℕ
  pub number : ℕ
  pub unit : ℕ
  pub digits : IsNumber 10 front number
  pub named : IsUnit byte unit
  pub spelled : text ≡ front ++ byte ∷ []
  pub value : millis ≡ number * unit
  pub below : millis < 10 ^ 15

-- The byte stands between a date and a time of day: `T` or a space (RFC 3339, 5.6).
abbrev pub IsMark : ℕ → Type 0
IsMark byte = (byte ≡ 84) ⊎ (byte ≡ 32)

-- The text is this sign and `HH:MM`, of minutes below 24 hours.
abbrev pub IsOffset : ℕ → List ℕ → ℕ → Type 0
IsOffset sign text minutes =
    (minutes < 1440)
    × (text ≡ sign ∷ two_digits (minutes / 60) ++ codes ":" ++ two_digits (minutes % 60))

-- The text is a zone: `Z`, or an offset, `+HH:MM` if its clocks are ahead of UTC, `-HH:MM` if they
-- are behind UTC (RFC 3339, 4.2 and 5.6). Its clocks show `clock` seconds since 1970-01-01T00:00:00
-- at the time `seconds` after 1970-01-01T00:00:00Z. So no time is before 1970.
abbrev pub IsZone : List ℕ → ℕ → ℕ → Type 0
IsZone text clock seconds =
    ((text ≡ codes "Z") × (clock ≡ seconds))
    ⊎ (((minutes : ℕ) × (IsOffset 43 text minutes × (clock ≡ seconds + minutes * 60)))
    ⊎ ((minutes : ℕ) × (IsOffset 45 text minutes × (clock + minutes * 60 ≡ seconds))))

-- The text is a date, `T` or a space, a time of day, which may have one to nine digits after a
-- point, and a zone (RFC 3339, 5.6). The date has a year from 1970 to 9999.
pub record IsDate (text : List ℕ) (millis : ℕ) : Type 0 where
  pub mark : ℕ
  pub clock : ℕ
  pub behind : List ℕ
  pub part : ℕ
  pub zone : List ℕ
  pub seconds : ℕ
  pub between : IsMark mark
  pub year : (date_of (clock / 86400)).year < 10000
  pub end : IsEnd behind part
  pub named : IsZone zone clock seconds
  pub spelled : text ≡ marked_text mark clock ++ behind ++ zone
  pub value : millis ≡ seconds * 1000 + part

-- The milliseconds of a time, since the first record or since 1970.
abbrev pub millis_of : Time → ℕ
millis_of (Moment millis) = millis
millis_of (Epoch millis) = millis

-- The text names this time.
abbrev pub IsTime : List ℕ → Time → Type 0
IsTime text (Moment millis) = IsNumber 13 text millis ⊎ IsSpan text millis
IsTime text (Epoch millis) = IsSeconds text millis ⊎ IsDate text millis
