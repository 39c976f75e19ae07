-- What the clauses of private functions say of the pieces of a text.
use Rattle.std.specs.Prelude.{◌≡◌, ◌≢◌, ℕ, ◌/◌, ◌%◌, ◌<◌, ◌⊎◌, List, ◌∷◌, ◌++◌}
use Rattle.std.specs.Prelude.{length, get_or, codes}
use Rattle.pim_time.specs.Calendar.{date_of}
use Rattle.pim_time.specs.Text.{two_digits, day_text, clock_text, marked_text, IsMark}

-- The text is the two digits of a number and the text `behind`.
abbrev pub IsTwo : List ℕ → ℕ → List ℕ → Type 0
IsTwo text number behind = (number < 100) × (text ≡ two_digits number ++ behind)

-- The text is this byte, the two digits of a number and the text `behind`.
abbrev pub IsTwoAfter : ℕ → List ℕ → ℕ → List ℕ → Type 0
IsTwoAfter byte text number behind = (number < 100) × (text ≡ byte ∷ (two_digits number ++ behind))

-- The text is the four digits of a year and the text `behind`.
abbrev pub IsYear : List ℕ → ℕ → List ℕ → Type 0
IsYear text year behind = (year < 10000) × (text ≡ two_digits (year / 100) ++ (two_digits (year % 100) ++ behind))

-- The text is the date this many days after 1970-01-01 and the text `behind`.
abbrev pub IsDay : List ℕ → ℕ → List ℕ → Type 0
IsDay text days behind = ((date_of days).year < 10000) × (text ≡ day_text (date_of days) ++ behind)

-- The text is the time of day this many seconds after its start and the text `behind`.
abbrev pub IsClock : List ℕ → ℕ → List ℕ → Type 0
IsClock text seconds behind = (seconds < 86400) × (text ≡ clock_text seconds ++ behind)

-- The text is the date and the time of day this many seconds since 1970 and the text `behind`.
pub record IsSecond (text : List ℕ) (seconds : ℕ) (behind : List ℕ) : Type 0 where
  pub mark : ℕ
  pub between : IsMark mark
  pub year : (date_of (seconds / 86400)).year < 10000
  pub spelled : text ≡ marked_text mark seconds ++ behind

-- The text is `HH:MM`, of minutes below 24 hours.
abbrev pub IsHours : List ℕ → ℕ → Type 0
IsHours text minutes =
    (minutes < 1440) × (text ≡ two_digits (minutes / 60) ++ codes ":" ++ two_digits (minutes % 60))

-- The text is `Z`, or six bytes of which the last one is another.
abbrev pub IsZoneLong : List ℕ → Type 0
IsZoneLong text = (text ≡ codes "Z") ⊎ ((length text ≡ 6) × (get_or text 5 90 ≢ 90))
