-- Bytes that are searched for a line feed.
use Rattle.pim_request.proofs.Cited.{◌≡◌, ◌∙◌, sym, ap, refl, ℕ, zero, suc, ◌+◌, ◌-◌, ◌<◌, ◌≤◌, Bool, true, false, cond}
use Rattle.pim_request.proofs.Cited.{List, [], ◌∷◌, ◌++◌, Some, None, length, take, drop, get_or, ltb, arith, ◌==◌}
use Rattle.pim_request.proofs.Cited.{length-append, length-take, position, position_or_len, take-append-drop, drop_more}
use Rattle.pim_request.proofs.Cited.{get_or-take, get_or_append_left, get_or-append_right, get_or-append-add}
use Rattle.pim_request.proofs.Cited.{position-Some, ltb-true, ltb-false, eqb-true, NoFeed, IsFeedAt}

abbrev pub is_feed : ℕ → Bool
is_feed byte = byte == 10

pub rest_has_none : (byte : ℕ) (bytes : List ℕ) → NoFeed (byte ∷ bytes) → NoFeed bytes
rest_has_none byte bytes none k d low = none (suc k) d (omega arith)

none_in : (bytes : List ℕ) → length bytes ≤ position_or_len is_feed bytes → NoFeed bytes
none_in [] past k d low = absurd (omega arith)
none_in (byte ∷ bytes) past k d low = at (is_feed byte) refl (none_in bytes) k low
  where
    at : (t : Bool) → is_feed byte ≡ t → (length bytes ≤ position_or_len is_feed bytes → NoFeed bytes) → (k : ℕ) → k < suc (length bytes) → get_or (byte ∷ bytes) k d == 10 ≡ false
    at true is further k low = let none : position_or_len is_feed (byte ∷ bytes) ≡ 0 = rw is refl in absurd (omega (arith, none, past))
    at false is further zero low = is
    at false is further (suc k) low =
        let more : position_or_len is_feed (byte ∷ bytes) ≡ 1 + position_or_len is_feed bytes = rw is refl in
        further (omega (arith, more, past)) k d (omega arith)

pub none_found : (bytes : List ℕ) → position is_feed bytes ≡ None → NoFeed bytes
none_found bytes none = at (ltb (position_or_len is_feed bytes) (length bytes)) refl none
  where
    at : (t : Bool) → ltb (position_or_len is_feed bytes) (length bytes) ≡ t → cond t (Some (position_or_len is_feed bytes)) None ≡ None → NoFeed bytes
    at true is e = absurd cc
    at false is e = none_in bytes (ltb-false (position_or_len is_feed bytes) (length bytes) is)

pub no_feed_joined : (front back : List ℕ) → NoFeed front → NoFeed back → NoFeed (front ++ back)
no_feed_joined front back first second k d low = at (ltb k (length front)) refl
  where
    at : (t : Bool) → ltb k (length front) ≡ t → get_or (front ++ back) k d == 10 ≡ false
    at true is = rw (get_or_append_left front back d k (ltb-true k (length front) is)) (first k d (ltb-true k (length front) is))
    at false is = rw (get_or-append_right front back (length front) k d refl (ltb-false k (length front) is))
        (second (k - length front) d (omega (arith, length-append front back, low, ltb-false k (length front) is)))

pub cut_at : (bytes : List ℕ) (place : ℕ) → place < length bytes → get_or bytes place 0 ≡ 10 → bytes ≡ take place bytes ++ 10 ∷ drop (place + 1) bytes
cut_at bytes place low is =
    sym (take-append-drop place bytes) ∙ ap (λ rest. take place bytes ++ rest) (drop_more bytes place 0 low ∙ ap (λ byte. byte ∷ drop (place + 1) bytes) is)

pub feed_found : (front back : List ℕ) (place : ℕ) → NoFeed front → position is_feed back ≡ Some place → IsFeedAt (length front + place) (front ++ back)
feed_found front back place first found =
    let here = position-Some is_feed back place 0 found in
    let low : length front + place < length (front ++ back) = omega (arith, length-append front back, here.0) in
    record {
      within = low;
      before = λ k d within. at k d (omega (arith, length-take (length front + place) (front ++ back), within)) (ltb k (length front)) refl;
      feed = cut_at (front ++ back) (length front + place) low (get_or-append-add front back place 0 ∙ eqb-true _ _ here.1);
    }
  where
    at : (k d : ℕ) → k < length front + place → (t : Bool) → ltb k (length front) ≡ t → get_or (take (length front + place) (front ++ back)) k d == 10 ≡ false
    at k d low true is = rw (get_or-take (length front + place) (front ++ back) k d low) (rw (get_or_append_left front back d k (ltb-true k (length front) is)) (first k d (ltb-true k (length front) is)))
    at k d low false is =
        let here = position-Some is_feed back place d found in
        rw (get_or-take (length front + place) (front ++ back) k d low) (rw (get_or-append_right front back (length front) k d refl (ltb-false k (length front) is)) (here.2 (k - length front) (omega (arith, ltb-false k (length front) is, low))))
