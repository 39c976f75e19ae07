-- The texts that are written name their times.
use Rattle.pim_time.proofs.Words.{◌≡◌, sym, refl, ℕ, ◌+◌, ◌/◌, ◌%◌, ◌<◌, inl, inr, List, [], ◌∷◌, ◌++◌, length}
use Rattle.pim_time.proofs.Words.{length-append, drop, drop-drop, append_assoc, decimal, arith, digit_value, nat_tests}
use Rattle.pim_time.proofs.Words.{date_of, Date, two_digits, day_text, clock_text, millis_text, seconds_text}
use Rattle.pim_time.proofs.Words.{second_text, marked_text, date_text, IsNumber, IsPart, IsTime, Epoch}
use Rattle.std.proofs.lemmas.Fmt.{decimal_is_IsNumeral, length-decimal-le}
use Rattle.pim_time.proofs.Days.{year_below}

digit_of : (n : ℕ) → n < 10 → digit_value (48 + n) ≡ n
digit_of n small = grind (arith, nat_tests)

three_digits : (millis : ℕ) → millis < 1000 → IsNumber 9 ((48 + millis / 100) ∷ two_digits (millis % 100)) millis
three_digits millis small =
    let first = digit_of (millis / 100) (omega arith) in
    let second = digit_of (millis % 100 / 10) (omega arith) in
    let third = digit_of (millis % 100 % 10) (omega arith) in
    record {
      digits = (omega arith, (omega (arith, first), (omega (arith, second), (omega (arith, third), tt))));
      short = omega arith;
      value = omega (arith, first, second, third);
    }

pub millis_part : (millis : ℕ) → millis < 1000 → IsPart (millis_text millis) millis
millis_part millis small = record {
  tail = (48 + millis / 100) ∷ two_digits (millis % 100);
  number = millis;
  digits = three_digits millis small;
  spelled = refl;
  value = omega arith;
}

pub seconds_name : (millis : ℕ) → millis < 10000000000000 → IsTime (seconds_text millis) (Epoch millis)
unfolding seconds_text
seconds_name millis small =
    let number = decimal_is_IsNumeral (millis / 1000) (omega arith) in
    inl (record {
      front = decimal (millis / 1000);
      behind = millis_text (millis % 1000);
      seconds = millis / 1000;
      part = millis % 1000;
      digits = record { digits = number.0; short = length-decimal-le 10 (millis / 1000) (omega arith) (omega arith) (omega arith); value = sym number.1 };
      fraction = millis_part (millis % 1000) (omega arith);
      spelled = refl;
      value = omega arith;
    })

pub date_names : (millis : ℕ) → millis < 253402300800000 → IsTime (date_text millis) (Epoch millis)
unfolding date_text second_text marked_text
date_names millis small =
    inr (record {
      mark = 84;
      clock = millis / 1000;
      behind = millis_text (millis % 1000);
      part = millis % 1000;
      zone = 90 ∷ [];
      seconds = millis / 1000;
      between = inl refl;
      year = year_below (millis / 1000 / 86400) (omega arith);
      end = inr (millis_part (millis % 1000) (omega arith));
      named = inl (refl, refl);
      spelled = refl;
      value = omega arith;
    })

-- ---- the texts in their pieces

pub date_pieces : (millis : ℕ) (date : Date) (day mark clock part end : List ℕ) → date ≡ date_of (millis / 1000 / 86400) → day ≡ day_text date → mark ≡ 84 ∷ [] → clock ≡ clock_text (millis / 1000 % 86400) → part ≡ millis_text (millis % 1000) → end ≡ 90 ∷ [] → day ++ (mark ++ (clock ++ (part ++ end))) ≡ date_text millis
unfolding date_text second_text
date_pieces millis date day mark clock part end is day_is mark_is clock_is part_is end_is =
    rw (day_is, mark_is, clock_is, part_is, end_is, is) refl

pub seconds_pieces : (millis n : ℕ) (front part out : List ℕ) → front ≡ decimal (millis / 1000) → part ≡ millis_text (millis % 1000) → n ≡ length front → front ++ (part ++ drop 4 (drop n out)) ≡ seconds_text millis ++ drop (n + 4) out
unfolding seconds_text
seconds_pieces millis n front part out is part_is long =
    rw (drop-drop 4 n out, is, part_is) (sym (append_assoc (decimal (millis / 1000)) (millis_text (millis % 1000)) (drop (n + 4) out)))

pub seconds_length : (millis : ℕ) (front : List ℕ) → front ≡ decimal (millis / 1000) → length front + 4 ≡ length (seconds_text millis)
unfolding seconds_text
seconds_length millis front is =
    let long = length-append (decimal (millis / 1000)) (millis_text (millis % 1000)) in
    rw is (sym long)
