-- A row that answers in a part of the ranges.
use Rattle.std.proofs.Common.{◌≡◌, ℕ, zero, suc, ◌+◌, ◌-◌, ◌<◌, ◌≤◌, ◌⊎◌, inl, inr, List, [], ◌∷◌, ◌++◌, length, map, take, drop, get_or, set, Option, Some, None, refl, sym, ap, ◌∙◌, arith}
use Rattle.std.proofs.lemmas.Bool.{cases_lt, lt-leb, le-leb}
use Rattle.pim_addr.specs.Routes.{Row, longer_of}
use Rattle.pim_addr.specs.RouteRows.{before, answer_of, IsStart, IsEnd, answer_with, AnswersBetween}
use Rattle.pim_addr.proofs.OneMoreEnd.{before_within, before_rises}

-- a list of which the first so many are changed
unfoldable pub changed : {X : Type 0} → (X → X) → ℕ → List X → List X
changed f zero xs = xs
changed f (suc i) [] = []
changed f (suc i) (x ∷ xs) = f x ∷ changed f i xs

pub changed_none : {X : Type 0} (f : X → X) (xs : List X) → xs ≡ changed f 0 xs
unfolding changed
changed_none f xs = refl

pub changed_at : {X : Type 0} (f : X → X) (i : ℕ) (xs : List X) (d : X) → get_or (changed f i xs) i d ≡ get_or xs i d
unfolding changed
changed_at f zero xs d = refl
changed_at f (suc i) [] d = refl
changed_at f (suc i) (x ∷ xs) d = changed_at f i xs d

pub changed_more : {X : Type 0} (f : X → X) (i : ℕ) (xs : List X) (d : X) → i < length xs → set (changed f i xs) i (f (get_or xs i d)) ≡ changed f (suc i) xs
unfolding changed
changed_more f zero [] d l = absurd (omega arith)
changed_more f zero (x ∷ xs) d l = refl
changed_more f (suc i) [] d l = absurd (omega arith)
changed_more f (suc i) (x ∷ xs) d l = ap (λ ys. f x ∷ ys) (changed_more f i xs d (omega arith))

pub changed_all : {X : Type 0} (f : X → X) (i : ℕ) (xs : List X) → length xs ≤ i → changed f i xs ≡ map f xs
unfolding changed
changed_all f zero [] l = refl
changed_all f zero (x ∷ xs) l = absurd (omega arith)
changed_all f (suc i) [] l = refl
changed_all f (suc i) (x ∷ xs) l = ap (λ ys. f x ∷ ys) (changed_all f i xs (omega arith))

pub map_set : {X Y : Type 0} (f : X → Y) (xs : List X) (i : ℕ) (x : X) → map f (set xs i x) ≡ set (map f xs) i (f x)
map_set f [] zero x = refl
map_set f [] (suc i) x = refl
map_set f (y ∷ ys) zero x = refl
map_set f (y ∷ ys) (suc i) x = ap (λ zs. f y ∷ zs) (map_set f ys i x)

-- ---- a part of a list changed, the rest as it was

part : {X : Type 0} (f : X → X) (n j : ℕ) (xs : List X) (d : X) → n ≤ length xs →
    (j < n → get_or (map f (take n xs) ++ drop n xs) j d ≡ f (get_or xs j d)) × (n ≤ j → get_or (map f (take n xs) ++ drop n xs) j d ≡ get_or xs j d)
part f zero j xs d l = (λ m. absurd (omega arith), λ m. refl)
part f (suc n) j [] d l = absurd (omega arith)
part f (suc n) zero (x ∷ xs) d l = (λ m. refl, λ m. absurd (omega arith))
part f (suc n) (suc j) (x ∷ xs) d l = let more = part f n j xs d (omega arith) in (λ m. more.0 (omega arith), λ m. more.1 (omega arith))

with_part : {X : Type 0} (f : X → X) (a n : ℕ) (xs : List X) → List X
with_part f a n xs = take a xs ++ (map f (take n (drop a xs)) ++ drop n (drop a xs))

before_part : {X : Type 0} (f : X → X) (a n j : ℕ) (xs : List X) (d : X) → a ≤ length xs → j < a → get_or (with_part f a n xs) j d ≡ get_or xs j d
unfolding with_part
before_part f zero n j xs d l m = absurd (omega arith)
before_part f (suc a) n j [] d l m = absurd (omega arith)
before_part f (suc a) n zero (x ∷ xs) d l m = refl
before_part f (suc a) n (suc j) (x ∷ xs) d l m = before_part f a n j xs d (omega arith) (omega arith)

from_part : {X : Type 0} (f : X → X) (a n j : ℕ) (xs : List X) (d : X) → a + n ≤ length xs →
    (a ≤ j → j < a + n → get_or (with_part f a n xs) j d ≡ f (get_or xs j d)) × (a + n ≤ j → get_or (with_part f a n xs) j d ≡ get_or xs j d)
unfolding with_part
from_part f zero n j xs d l = let more = part f n j xs d (omega arith) in (λ m o. more.0 (omega arith), λ m. more.1 (omega arith))
from_part f (suc a) n j [] d l = absurd (omega arith)
from_part f (suc a) n zero (x ∷ xs) d l = (λ m o. absurd (omega arith), λ m. absurd (omega arith))
from_part f (suc a) n (suc j) (x ∷ xs) d l = let more = from_part f a n j xs d (omega arith) in (λ m o. more.0 (omega arith) (omega arith), λ m. more.1 (omega arith))

-- the row answers between a start and an end
pub answers_between : (ends : List ℕ) (old new : List (Option Row)) (first last place count : ℕ) (row : Row) → length ends ≡ length old → first ≤ last → IsStart first ends → IsEnd last ends →
    place ≡ before first ends → count ≡ before last ends + 1 - before first ends →
    new ≡ take place old ++ (map (λ answer. Some (longer_of row answer)) (take count (drop place old)) ++ drop count (drop place old)) → AnswersBetween first last row (answer_of ends old) (answer_of ends new)
unfolding with_part
answers_between ends old new first last place count row paired order start end e f is number =
    ap (λ (xs : List (Option Row)). get_or xs (before number ends) None) is ∙ by (cases_lt number first) (cases_lt last number)
  where
    over : Option Row → Option Row
    over answer = Some (longer_of row answer)

    within : place + count ≤ length old
    within = let few = before_within (suc last) ends in omega (arith, e, f, few, end, paired, before_rises first last ends order)

    by : (number < first) ⊎ (first ≤ number) → (last < number) ⊎ (number ≤ last) →
        get_or (with_part over place count old) (before number ends) None ≡ answer_with first last row number (answer_of ends old number)
    by (inl l) any = before_part over place count (before number ends) old None (omega (arith, within)) (omega (arith, start number l, e)) ∙ sym (rw (lt-leb first number l) refl)
    by (inr l) (inl m) = (from_part over place count (before number ends) old None within).1 (omega (arith, e, f, end, before_rises (suc last) number ends m, before_rises first last ends order))
        ∙ sym (rw (le-leb first number l, lt-leb number last m) refl)
    by (inr l) (inr m) =
        (from_part over place count (before number ends) old None within).0 (omega (arith, e, before_rises first number ends l)) (omega (arith, e, f, before_rises number last ends m, before_rises first last ends order))
        ∙ sym (rw (le-leb first number l, le-leb number last m) refl)
