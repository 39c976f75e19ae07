-- The moments of events, in the three forms of `--time`.
use Rattle.std.specs.Prelude.{ℕ, nat_lt, if◌then◌else◌, List, Option, None, Some, codes, decimal}
use Rattle.pim_time.specs.Text.{date_text, seconds_text}
use Rattle.pim_time.specs.declared.form.TimeForm.{TimeForm}
use Rattle.pim_time.specs.declared.form.TimeForm.TheVariants.{Ms, Epoch, Utc}

-- The UTC date of a time; its seconds from the year 10000 on, which has five digits.
abbrev pub utc_text : ℕ → List ℕ
utc_text millis = if nat_lt millis 253402300800000 then date_text millis else seconds_text millis

-- The time since 1970 as seconds, or `-` where there is none.
abbrev pub epoch_text : Option ℕ → List ℕ
epoch_text None = codes "-"
epoch_text (Some millis) = seconds_text millis

-- The time since 1970 as a date, or `-` where there is none.
abbrev pub date_or_dash : Option ℕ → List ℕ
date_or_dash None = codes "-"
date_or_dash (Some millis) = utc_text millis

-- The moment of an event: milliseconds since the first record, or the time since 1970.
abbrev pub moment_text : TimeForm → ℕ → Option ℕ → List ℕ
moment_text Ms ms epoch = decimal ms
moment_text Epoch ms epoch = epoch_text epoch
moment_text Utc ms epoch = date_or_dash epoch
