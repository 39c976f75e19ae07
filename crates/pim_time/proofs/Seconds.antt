-- A date and a time of day are one second.
use Rattle.pim_time.proofs.Words.{◌≡◌, ◌∙◌, ap, refl, ℕ, ◌+◌, ◌*◌, ◌/◌, ◌%◌, List, ◌∷◌, ◌++◌, arith, date_of}
use Rattle.pim_time.proofs.Words.{day_text, clock_text, marked_text, IsMark, IsDate}
use Rattle.pim_time.specs.Pieces.{IsDay, IsClock, IsSecond}

pub joined : (text behind tail last : List ℕ) (mark days clock : ℕ) → IsMark mark → IsDay text days behind → behind ≡ mark ∷ tail → IsClock tail clock last → IsSecond text (days * 86400 + clock) last
unfolding marked_text
joined text behind tail last mark days clock between day next time =
    let small = time.0 in
    let whole : (days * 86400 + clock) / 86400 ≡ days = omega arith in
    let rest : (days * 86400 + clock) % 86400 ≡ clock = omega arith in
    record {
      mark = mark;
      between = between;
      year = rw whole day.0;
      spelled = rw (whole, rest) (day.1 ∙ ap (λ b. day_text (date_of days) ++ b) (next ∙ ap (λ b. mark ∷ b) time.1));
    }

-- The date at the front of a date and a time of day, and what comes after it.
pub its_day : (text behind : List ℕ) (seconds : ℕ) → (is : IsSecond text seconds behind) → IsDay text (seconds / 86400) (is.mark ∷ (clock_text (seconds % 86400) ++ behind))
unfolding marked_text
its_day text behind seconds is = (is.year, is.spelled)

pub tails : (x y : ℕ) (xs ys : List ℕ) → x ∷ xs ≡ y ∷ ys → xs ≡ ys
tails x y xs ys same = cc

-- The date and the time of day before the part of a second and the zone.
pub its_second : (text : List ℕ) (millis : ℕ) → (is : IsDate text millis) → IsSecond (marked_text is.mark is.clock ++ is.behind) is.clock is.behind
its_second text millis is = record { mark = is.mark; between = is.between; year = is.year; spelled = refl }
