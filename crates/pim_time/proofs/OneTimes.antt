-- A text names one time.
use Rattle.pim_time.proofs.Words.{◌≡◌, ◌∙◌, sym, ap, subst, refl, ℕ, suc, ◌+◌, ◌*◌, ◌/◌, ◌%◌, ◌^◌, ◌<◌, inl, inr, List}
use Rattle.pim_time.proofs.Words.{[], ◌∷◌, ◌++◌, length, drop, arith, digits_value}
use Rattle.pim_time.proofs.Words.{date_of, IsCivil, day_text, clock_text, marked_text, IsNumber, IsPart, IsEnd, IsUnit}
use Rattle.pim_time.proofs.Words.{IsSeconds, IsSpan, IsZone, IsDate, IsTime, Date, Time, Moment, Epoch}
use Rattle.pim_time.proofs.Walks.{day_of, month_high}
use Rattle.pim_time.proofs.Days.{is_civil, one_day}
use Rattle.pim_time.proofs.Points.{point_is_found, cut_there, same_some}
use Rattle.pim_time.proofs.Zones.{same_cut, byte_at, zones_cut, zone_long, one_zone}
use Rattle.pim_time.proofs.Forms.{spelled_by_point, seconds_or_date, number_or_span, IsMoment}
use Rattle.pim_time.proofs.Forms.{moment_or_seconds, moment_or_date}

one_number : (most most_other n m : ℕ) (text other : List ℕ) → text ≡ other → IsNumber most text n → IsNumber most_other other m → n ≡ m
one_number most most_other n m text other same is also = is.value ∙ (ap (digits_value 10) same ∙ sym also.value)

one_part : (text other : List ℕ) (n m : ℕ) → text ≡ other → IsPart text n → IsPart other m → n ≡ m
one_part text other n m same is also =
    let tails = ap (drop 1) (sym is.spelled ∙ (same ∙ also.spelled)) in
    let number = one_number 9 9 is.number also.number _ _ tails is.digits also.digits in
    is.value ∙ (ap (λ k. k * 1000 / 10 ^ length is.tail) number ∙ (ap (λ t. also.number * 1000 / 10 ^ length t) tails ∙ sym also.value))

one_seconds : (text : List ℕ) (n m : ℕ) → IsSeconds text n → IsSeconds text m → n ≡ m
one_seconds text n m is also =
    let whole = spelled_by_point text n is in
    let other = spelled_by_point text m also in
    let places = same_some _ _ (sym (point_is_found text is.front _ is.digits.digits.1 whole) ∙ point_is_found text also.front _ also.digits.digits.1 other) in
    let mine = cut_there text is.front _ (length is.front) whole refl in
    let yours = cut_there text also.front _ (length is.front) other places in
    let seconds = one_number 10 10 is.seconds also.seconds _ _ (sym mine.0 ∙ yours.0) is.digits also.digits in
    let part = one_part is.behind also.behind is.part also.part (is.fraction.spelled ∙ ((sym mine.1 ∙ yours.1) ∙ sym also.fraction.spelled)) is.fraction also.fraction in
    omega (arith, is.value, also.value, seconds, part)

-- ---- dates

same_date : (one other : Date) (xs ys : List ℕ) → IsCivil one → IsCivil other → one.year < 10000 → other.year < 10000 → day_text one ++ xs ≡ day_text other ++ ys → one ≡ other
same_date one other xs ys civil also year other_year same =
    let last = civil.last_month in
    let also_last = also.last_month in
    let last_day = civil.last_day in
    let also_last_day = also.last_day in
    let high = month_high one.year one.month in
    let also_high = month_high other.year other.month in
    let b0 : 48 + one.year / 100 / 10 ≡ 48 + other.year / 100 / 10 = byte_at 0 _ _ same in
    let b1 : 48 + one.year / 100 % 10 ≡ 48 + other.year / 100 % 10 = byte_at 1 _ _ same in
    let b2 : 48 + one.year % 100 / 10 ≡ 48 + other.year % 100 / 10 = byte_at 2 _ _ same in
    let b3 : 48 + one.year % 100 % 10 ≡ 48 + other.year % 100 % 10 = byte_at 3 _ _ same in
    let b5 : 48 + one.month / 10 ≡ 48 + other.month / 10 = byte_at 5 _ _ same in
    let b6 : 48 + one.month % 10 ≡ 48 + other.month % 10 = byte_at 6 _ _ same in
    let b8 : 48 + one.day / 10 ≡ 48 + other.day / 10 = byte_at 8 _ _ same in
    let b9 : 48 + one.day % 10 ≡ 48 + other.day % 10 = byte_at 9 _ _ same in
    let years : one.year ≡ other.year = omega (arith, b0, b1, b2, b3) in
    let months : one.month ≡ other.month = omega (arith, b5, b6) in
    let days : one.day ≡ other.day = omega (arith, b8, b9) in
    ap (λ y. day_of y one.month one.day) years ∙ (ap (λ m. day_of other.year m one.day) months ∙ ap (day_of other.year other.month) days)

same_clock : (n m : ℕ) (xs ys : List ℕ) → n < 86400 → m < 86400 → clock_text n ++ xs ≡ clock_text m ++ ys → n ≡ m
same_clock n m xs ys small also same =
    let b0 : 48 + n / 3600 / 10 ≡ 48 + m / 3600 / 10 = byte_at 0 _ _ same in
    let b1 : 48 + n / 3600 % 10 ≡ 48 + m / 3600 % 10 = byte_at 1 _ _ same in
    let b3 : 48 + n / 60 % 60 / 10 ≡ 48 + m / 60 % 60 / 10 = byte_at 3 _ _ same in
    let b4 : 48 + n / 60 % 60 % 10 ≡ 48 + m / 60 % 60 % 10 = byte_at 4 _ _ same in
    let b6 : 48 + n % 60 / 10 ≡ 48 + m % 60 / 10 = byte_at 6 _ _ same in
    let b7 : 48 + n % 60 % 10 ≡ 48 + m % 60 % 10 = byte_at 7 _ _ same in
    let hours : n / 3600 ≡ m / 3600 = omega (arith, b0, b1) in
    let minutes : n / 60 % 60 ≡ m / 60 % 60 = omega (arith, b3, b4) in
    let seconds : n % 60 ≡ m % 60 = omega (arith, b6, b7) in
    omega (arith, hours, minutes, seconds)

record SameSecond (n m : ℕ) (xs ys : List ℕ) : Type 0 where
  pub seconds : n ≡ m
  pub behind : xs ≡ ys

same_second : (mark other n m : ℕ) (xs ys : List ℕ) → (date_of (n / 86400)).year < 10000 → (date_of (m / 86400)).year < 10000 → marked_text mark n ++ xs ≡ marked_text other m ++ ys → SameSecond n m xs ys
unfolding marked_text
same_second mark other n m xs ys year other_year same =
    let days = one_day _ _ (same_date (date_of (n / 86400)) (date_of (m / 86400)) _ _ (is_civil (n / 86400)) (is_civil (m / 86400)) year other_year same) in
    let clock = same_clock (n % 86400) (m % 86400) xs ys (omega arith) (omega arith) (ap (drop 11) same) in
    record { seconds = omega (arith, days, clock); behind = ap (drop 19) same }

one_end : (text other : List ℕ) (n m : ℕ) → text ≡ other → IsEnd text n → IsEnd other m → n ≡ m
one_end text other n m same (inl is) (inl also) = is.1 ∙ sym also.1
one_end text other n m same (inl is) (inr part) = absurd (let no : 0 ≡ suc (length part.tail) = ap length (sym is.0 ∙ (same ∙ part.spelled)) in omega (arith, no))
one_end text other n m same (inr part) (inl also) = absurd (let no : 0 ≡ suc (length part.tail) = ap length (sym also.0 ∙ (sym same ∙ part.spelled)) in omega (arith, no))
one_end text other n m same (inr is) (inr also) = one_part text other n m same is also

one_date : (text : List ℕ) (n m : ℕ) → IsDate text n → IsDate text m → n ≡ m
one_date text n m is also =
    let cut = zones_cut _ _ is.zone also.zone (zone_long is.zone is.clock is.seconds is.named) (zone_long also.zone also.clock also.seconds also.named) (sym is.spelled ∙ also.spelled) in
    let second = same_second is.mark also.mark is.clock also.clock is.behind also.behind is.year also.year cut.0 in
    let part = one_end is.behind also.behind is.part also.part second.behind is.end also.end in
    let there = subst (λ zone. IsZone zone also.clock also.seconds) (sym cut.1) also.named in
    let then = subst (λ clock. IsZone is.zone clock also.seconds) (sym second.seconds) there in
    let seconds = one_zone is.zone is.clock is.seconds also.seconds is.named then in
    omega (arith, is.value, also.value, seconds, part)

-- ---- moments

one_unit : (byte other unit also_unit : ℕ) → byte ≡ other → IsUnit byte unit → IsUnit other also_unit → unit ≡ also_unit
one_unit byte other unit also_unit same (inl is) (inl also) = omega (arith, same, is.0, is.1, also.0, also.1)
one_unit byte other unit also_unit same (inl is) (inr (inl also)) = omega (arith, same, is.0, is.1, also.0, also.1)
one_unit byte other unit also_unit same (inl is) (inr (inr also)) = omega (arith, same, is.0, is.1, also.0, also.1)
one_unit byte other unit also_unit same (inr (inl is)) (inl also) = omega (arith, same, is.0, is.1, also.0, also.1)
one_unit byte other unit also_unit same (inr (inl is)) (inr (inl also)) = omega (arith, same, is.0, is.1, also.0, also.1)
one_unit byte other unit also_unit same (inr (inl is)) (inr (inr also)) = omega (arith, same, is.0, is.1, also.0, also.1)
one_unit byte other unit also_unit same (inr (inr is)) (inl also) = omega (arith, same, is.0, is.1, also.0, also.1)
one_unit byte other unit also_unit same (inr (inr is)) (inr (inl also)) = omega (arith, same, is.0, is.1, also.0, also.1)
one_unit byte other unit also_unit same (inr (inr is)) (inr (inr also)) = omega (arith, same, is.0, is.1, also.0, also.1)

one_span : (text : List ℕ) (n m : ℕ) → IsSpan text n → IsSpan text m → n ≡ m
one_span text n m is also =
    let cut = same_cut is.front also.front (is.byte ∷ []) (also.byte ∷ []) refl (sym is.spelled ∙ also.spelled) in
    let unit = one_unit is.byte also.byte is.unit also.unit (byte_at 0 _ _ cut.1) is.named also.named in
    let number = one_number 10 10 is.number also.number _ _ cut.0 is.digits also.digits in
    is.value ∙ (ap (λ k. k * is.unit) number ∙ (ap (λ k. also.number * k) unit ∙ sym also.value))

one_moment : (text : List ℕ) (n m : ℕ) → IsMoment text n → IsMoment text m → n ≡ m
one_moment text n m (inl is) (inl also) = one_number 13 13 n m text text refl is also
one_moment text n m (inl is) (inr also) = absurd (number_or_span 13 n m text is also)
one_moment text n m (inr is) (inl also) = absurd (number_or_span 13 m n text also is)
one_moment text n m (inr is) (inr also) = one_span text n m is also

pub one_time : (text : List ℕ) (one other : Time) → IsTime text one → IsTime text other → one ≡ other
one_time text (Moment n) (Moment m) is also = ap (λ k. Moment k) (one_moment text n m is also)
one_time text (Moment n) (Epoch m) is (inl also) = absurd (moment_or_seconds n m text is also)
one_time text (Moment n) (Epoch m) is (inr also) = absurd (moment_or_date n m text is also)
one_time text (Epoch n) (Moment m) (inl is) also = absurd (moment_or_seconds m n text also is)
one_time text (Epoch n) (Moment m) (inr is) also = absurd (moment_or_date m n text also is)
one_time text (Epoch n) (Epoch m) (inl is) (inl also) = ap (λ k. Epoch k) (one_seconds text n m is also)
one_time text (Epoch n) (Epoch m) (inl is) (inr also) = absurd (seconds_or_date n m text is also)
one_time text (Epoch n) (Epoch m) (inr is) (inl also) = absurd (seconds_or_date m n text also is)
one_time text (Epoch n) (Epoch m) (inr is) (inr also) = ap (λ k. Epoch k) (one_date text n m is also)
