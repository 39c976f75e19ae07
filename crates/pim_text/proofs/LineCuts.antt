-- A text that is cut after its first line feed.
use Rattle.pim_text.proofs.Words.{◌≡◌, sym, ap, refl, ℕ, zero, suc, ◌+◌, ◌<◌, ◌≤◌, Bool, true, false, cond, List, []}
use Rattle.pim_text.proofs.Words.{◌∷◌, Some, None, length, take, drop, ltb, arith, add-one, ◌==◌, position}
use Rattle.pim_text.proofs.Words.{position_or_len, onto_first, ltb-true, ltb-false, lines}
use Rattle.pim_text.proofs.FieldEnds.{same_some, not_some}

abbrev is_feed : ℕ → Bool
is_feed byte = byte == 10

pub lines_of_none : lines [] ≡ []
unfolding lines
lines_of_none = refl

abbrev CutAt : List ℕ → ℕ → Type 0
CutAt text place = lines text ≡ take (suc place) text ∷ lines (drop (suc place) text)

here : (t : Bool) (byte : ℕ) (text : List ℕ) (place : ℕ) → is_feed byte ≡ t → position_or_len is_feed (byte ∷ text) ≡ place → ((k : ℕ) → position_or_len is_feed text ≡ k → k < length text → CutAt text k) → place < suc (length text) → CutAt (byte ∷ text) place
unfolding lines
here true byte text zero is at further below = rw is refl
here true byte text (suc place) is at further below = let none : position_or_len is_feed (byte ∷ text) ≡ 0 = rw is refl in absurd (omega (arith, none, at))
here false byte text zero is at further below = let more : position_or_len is_feed (byte ∷ text) ≡ 1 + position_or_len is_feed text = rw is refl in absurd (omega (arith, more, at))
here false byte text (suc place) is at further below =
    let more : position_or_len is_feed (byte ∷ text) ≡ 1 + position_or_len is_feed text = rw is refl in
    rw is (ap (onto_first byte) (further place (omega (arith, more, at)) (omega (arith, below))))

at_feed : (text : List ℕ) (place : ℕ) → position_or_len is_feed text ≡ place → place < length text → CutAt text place
at_feed [] place at below = absurd (omega arith)
at_feed (byte ∷ text) place at below = here (is_feed byte) byte text place refl at (λ k is low. at_feed text k is low) below

pub cut_at : (text : List ℕ) (place : ℕ) → position is_feed text ≡ Some place → lines text ≡ take (place + 1) text ∷ lines (drop (place + 1) text)
cut_at text place found = by (ltb (position_or_len is_feed text) (length text)) refl found
  where
    by : (t : Bool) → ltb (position_or_len is_feed text) (length text) ≡ t → cond t (Some (position_or_len is_feed text)) None ≡ Some place → lines text ≡ take (place + 1) text ∷ lines (drop (place + 1) text)
    by true is e = rw (add-one place) (at_feed text place (same_some (position_or_len is_feed text) place e) (omega (arith, ltb-true (position_or_len is_feed text) (length text) is, same_some (position_or_len is_feed text) place e)))
    by false is e = absurd (not_some place e)

no_feed : (text : List ℕ) → 0 < length text → length text ≤ position_or_len is_feed text → lines text ≡ text ∷ []
unfolding lines
no_feed [] some past = absurd (omega arith)
no_feed (byte ∷ []) some past = at (is_feed byte) refl
  where
    at : (t : Bool) → is_feed byte ≡ t → lines (byte ∷ []) ≡ (byte ∷ []) ∷ []
    at true is = let none : position_or_len is_feed (byte ∷ []) ≡ 0 = rw is refl in absurd (omega (arith, none, past))
    at false is = rw is refl
no_feed (byte ∷ other ∷ text) some past = at (is_feed byte) refl (λ low. no_feed (other ∷ text) (omega arith) low)
  where
    at : (t : Bool) → is_feed byte ≡ t → (length (other ∷ text) ≤ position_or_len is_feed (other ∷ text) → lines (other ∷ text) ≡ (other ∷ text) ∷ []) → lines (byte ∷ other ∷ text) ≡ (byte ∷ other ∷ text) ∷ []
    at true is further = let none : position_or_len is_feed (byte ∷ other ∷ text) ≡ 0 = rw is refl in absurd (omega (arith, none, past))
    at false is further =
        let more : position_or_len is_feed (byte ∷ other ∷ text) ≡ 1 + position_or_len is_feed (other ∷ text) = rw is refl in
        rw is (ap (onto_first byte) (further (omega (arith, more, past))))

pub cut_nowhere : (text : List ℕ) → 0 < length text → position is_feed text ≡ None → lines text ≡ text ∷ []
cut_nowhere text some found = by (ltb (position_or_len is_feed text) (length text)) refl found
  where
    by : (t : Bool) → ltb (position_or_len is_feed text) (length text) ≡ t → cond t (Some (position_or_len is_feed text)) None ≡ None → lines text ≡ text ∷ []
    by true is e = absurd (not_some (position_or_len is_feed text) (sym e))
    by false is e = no_feed text some (ltb-false (position_or_len is_feed text) (length text) is)

pub empty_has_none : (text : List ℕ) → length text ≡ 0 → lines text ≡ []
unfolding lines
empty_has_none [] none = refl
empty_has_none (byte ∷ text) none = absurd (omega (arith, none))
