-- The laws of times and their texts.
use Rattle.std.specs.Prelude.{◌≡◌, ℕ, ◌<◌, List}
use Rattle.pim_time.specs.Text.{IsTime, date_text, seconds_text}
use Rattle.pim_time.specs.Plain.{IsPlainTime}
use Rattle.pim_time.specs.declared.reading.Time.{Time}
use Rattle.pim_time.specs.declared.reading.Time.TheVariants.{Epoch}

-- A text names at most one time.
abbrev pub OneTime : Type 0
OneTime = (text : List ℕ) (one other : Time) → IsTime text one → IsTime text other → one ≡ other

-- The date that is written of a time before the year 10000 names that time.
abbrev pub DateNamesItsTime : Type 0
DateNamesItsTime = (millis : ℕ) → millis < 253402300800000 → IsTime (date_text millis) (Epoch millis)

-- The seconds that are written of a time name that time, where they have at most 10 digits before
-- the point.
abbrev pub SecondsNameTheirTime : Type 0
SecondsNameTheirTime = (millis : ℕ) → millis < 10000000000000 → IsTime (seconds_text millis) (Epoch millis)

-- What a plain form names, it names among all forms.
abbrev pub PlainNamesItsTime : Type 0
PlainNamesItsTime = (text : List ℕ) (time : Time) → IsPlainTime text time → IsTime text time
