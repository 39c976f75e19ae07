-- What a plain form names, it names among all forms.
use Rattle.pim_time.proofs.Words.{◌≡◌, ◌∙◌, refl, ℕ, zero, suc, ◌-◌, ◌*◌, ◌/◌, ◌^◌, ◌≤◌, inl, inr, List, [], ◌∷◌, length}
use Rattle.pim_time.proofs.Words.{arith, second_text, marked_text, IsPart, IsEnd, IsSeconds, IsDate, IsTime, Time}
use Rattle.pim_time.proofs.Words.{Moment, Epoch, IsPlainPart, IsPlainSeconds, IsPlainDate, IsPlainTime}
use Rattle.std.specs.Prelude.{◌⊎◌}

scaled : (n k : ℕ) → k ≤ 3 → n * 10 ^ (3 - k) ≡ n * 1000 / 10 ^ k
scaled n zero small = omega arith
scaled n (suc zero) small = omega arith
scaled n (suc (suc zero)) small = omega arith
scaled n (suc (suc (suc zero))) small = omega arith
scaled n (suc (suc (suc (suc k)))) small = absurd (omega (arith, small))

plain_part : (text : List ℕ) (millis : ℕ) → IsPlainPart text millis → IsPart text millis
plain_part text millis is =
    let short = is.digits.short in
    record {
      tail = is.tail;
      number = is.number;
      digits = record { digits = is.digits.digits; short = omega (arith, short); value = is.digits.value };
      spelled = is.spelled;
      value = is.value ∙ scaled is.number (length is.tail) short;
    }

plain_seconds : (text : List ℕ) (millis : ℕ) → IsPlainSeconds text millis → IsSeconds text millis
plain_seconds text millis is =
    record {
      front = is.front;
      behind = is.behind;
      seconds = is.seconds;
      part = is.part;
      digits = is.digits;
      fraction = plain_part is.behind is.part is.fraction;
      spelled = is.spelled;
      value = is.value;
    }

plain_end : (text : List ℕ) (millis : ℕ) → ((text ≡ []) × (millis ≡ 0)) ⊎ IsPlainPart text millis → IsEnd text millis
plain_end text millis (inl is) = inl is
plain_end text millis (inr is) = inr (plain_part text millis is)

plain_date : (text : List ℕ) (millis : ℕ) → IsPlainDate text millis → IsDate text millis
unfolding second_text marked_text
plain_date text millis is =
    record {
      mark = 84;
      clock = is.seconds;
      behind = is.behind;
      part = is.part;
      zone = 90 ∷ [];
      seconds = is.seconds;
      between = inl refl;
      year = is.year;
      end = plain_end is.behind is.part is.end;
      named = inl (refl, refl);
      spelled = is.spelled;
      value = is.value;
    }

pub plain_time : (text : List ℕ) (time : Time) → IsPlainTime text time → IsTime text time
plain_time text (Moment n) is = inl is
plain_time text (Epoch n) (inl is) = inl (plain_seconds text n is)
plain_time text (Epoch n) (inr is) = inr (plain_date text n is)
