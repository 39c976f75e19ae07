use Rattle.pim_time.proofs.Words.{◌≡◌, sym, ap, subst, ℕ, List, Some, inl, inr, IsSeconds, IsTime, Time, Moment, Epoch}
use Rattle.pim_time.proofs.Forms.{IsMoment, moment_or_seconds, moment_or_date, seconds_or_date}
use Rattle.pim_time.proofs.Points.{same_some}
use Rattle.pim_time.proofs.reading.read_time.Goals as goal

-- A text of a moment names no other time.
only_moment : (text : List ℕ) (n : ℕ) → IsMoment text n → ((m : ℕ) → IsMoment text m → Some n ≡ Some m) → (time : Time) → IsTime text time → Some (Moment n) ≡ Some time
only_moment text n moment only (Moment m) is = ap (λ k. Some (Moment k)) (same_some n m (only m is))
only_moment text n moment only (Epoch m) (inl is) = absurd (moment_or_seconds n m text moment is)
only_moment text n moment only (Epoch m) (inr is) = absurd (moment_or_date n m text moment is)

only_seconds : (text : List ℕ) (n : ℕ) → IsSeconds text n → ((m : ℕ) → IsSeconds text m → Some n ≡ Some m) → (time : Time) → IsTime text time → Some (Epoch n) ≡ Some time
only_seconds text n seconds only (Moment m) is = absurd (moment_or_seconds m n text is seconds)
only_seconds text n seconds only (Epoch m) (inl is) = ap (λ k. Some (Epoch k)) (same_some n m (only m is))
only_seconds text n seconds only (Epoch m) (inr is) = absurd (seconds_or_date n m text seconds is)

pub returns-in-Some-clause-only : goal.returns-in-Some-clause-only
returns-in-Some-clause-only c time is =
    let same = c.as_bytes-text.ensures.value in
    only_moment _ c.in-Some.millis c.in-Some.ensures.read c.in-Some.ensures.only time (subst (λ text. IsTime text time) (sym same) is)

pub returns-in-Some-read_seconds-clause-only : goal.returns-in-Some-read_seconds-clause-only
returns-in-Some-read_seconds-clause-only c time is =
    let same = c.as_bytes-text.ensures.value in
    only_seconds _ c.in-Some-read_seconds.millis c.in-Some-read_seconds.ensures.read c.in-Some-read_seconds.ensures.only time (subst (λ text. IsTime text time) (sym same) is)
