-- The index of the ends follows the neighbours.
use Rattle.std.proofs.Common.{◌≡◌, ℕ, ◌+◌, ◌<◌, ◌≤◌, [], ◌∷◌, length, arith, Bool, true, false, cond, List, Option, Some, None, is_some, refl, sym, ap, ◌∙◌}
use Rattle.pim_hello.proofs.Words.{not, ◌&&◌, ◌||◌, ◌==◌, list_any, nat_cmp, is_eq, is_gt, ordering_then, Ordering}
use Rattle.pim_hello.proofs.Words.{Less, Equal, Greater, tied_then, unsigned_tied, is_at, lookup, lt-leb, le-leb}
use Rattle.pim_hello.proofs.Words.{eq-eqb, eqb-true, false≢true, le_from_not_gt, ends_at, end_kept, ended_by}
use Rattle.pim_hello.proofs.Words.{kept_ends_at, NoneEnded, by_end, has_end, IndexesEnds, AddsEnd, RemovesEnd, Kept}

-- two ends of the index are one where the moments and the addresses are
pub same_end : {A : Type 0} (cmp : A → A → Ordering) (d e : ℕ) (a b : A) → is_at (by_end cmp (d, a)) (e, b) ≡ ((d == e) && is_at (cmp a) b)
same_end cmp d e a b = sym (tied_then (nat_cmp d e) (cmp a b)) ∙ ap (λ t. t && is_eq (cmp a b)) (unsigned_tied d e)

pub cond_or : (t b : Bool) → cond t true b ≡ (t || b)
cond_or true b = refl
cond_or false b = refl

pub cond_not : (t b : Bool) → cond t false b ≡ (not t && b)
cond_not true b = refl
cond_not false b = refl

pub adds_end : {A : Type 0} (cmp : A → A → Ordering) (d : ℕ) (a : A) (old new : List (ℕ × A)) →
    ((q : ℕ × A) → list_any (is_at (by_end cmp q)) new ≡ cond (is_at (by_end cmp (d, a)) q) true (list_any (is_at (by_end cmp q)) old)) → AddsEnd cmp (Some d) a old new
adds_end cmp d a old new h = λ e b. h (e, b) ∙ cond_or (is_at (by_end cmp (d, a)) (e, b)) (has_end cmp old e b) ∙ ap (λ t. t || has_end cmp old e b) (same_end cmp d e a b)

pub removes_end : {A : Type 0} (cmp : A → A → Ordering) (d : ℕ) (a : A) (old new : List (ℕ × A)) →
    ((q : ℕ × A) → list_any (is_at (by_end cmp q)) new ≡ cond (is_at (by_end cmp (d, a)) q) false (list_any (is_at (by_end cmp q)) old)) → RemovesEnd cmp (Some d) a old new
removes_end cmp d a old new h = λ e b. h (e, b) ∙ cond_not (is_at (by_end cmp (d, a)) (e, b)) (has_end cmp old e b) ∙ ap (λ t. not t && has_end cmp old e b) (same_end cmp d e a b)

-- ---- the first end

not_greater : (o p : Ordering) → is_gt (ordering_then o p) ≡ false → is_gt o ≡ false
not_greater Less p h = refl
not_greater Equal p h = refl
not_greater Greater p h = h

-- no end of the index comes before the first
pub first_end_le : {A : Type 0} (cmp : A → A → Ordering) (d e : ℕ) (a b : A) → is_gt (by_end cmp (d, a) (e, b)) ≡ false → d ≤ e
first_end_le cmp d e a b h = le_from_not_gt d e (not_greater (nat_cmp d e) (cmp a b) h)

not_ended : (moment : ℕ) (time : Option ℕ) → ((e : ℕ) → ends_at e time ≡ true → moment < e) → ended_by moment time ≡ false
not_ended moment None h = refl
not_ended moment (Some end) h = lt-leb end moment (h end (eq-eqb end end refl))

-- where each end of the index is later, nobody's time has ended
pub none_ended : {A : Type 0} (cmp : A → A → Ordering) (moment : ℕ) (ends : List (ℕ × A)) (neighbours : List (A × Kept)) → IndexesEnds cmp ends neighbours →
    ((e : ℕ) (b : A) → has_end cmp ends e b ≡ true → moment < e) → NoneEnded cmp moment neighbours
none_ended cmp moment ends neighbours i h = λ b. not_ended moment (end_kept (lookup (is_at (cmp b)) neighbours)) (λ e t. h e b (i e b ∙ t))

-- an end that isn't later has come
pub ended : (moment d : ℕ) (time : Option ℕ) → ends_at d time ≡ true → d ≤ moment → ended_by moment time ≡ true
ended moment d None t l = absurd (false≢true t)
ended moment d (Some end) t l = le-leb end moment (let e : end ≡ d = eqb-true end d t in omega arith)

-- an address with an end is known, so that its removal leaves fewer
pub fewer : (d : ℕ) (kept : Option Kept) (left all : ℕ) → kept_ends_at d kept ≡ true → left + cond (is_some kept) 1 0 ≡ all → left < all
fewer d None left all t e = absurd (false≢true t)
fewer d (Some kept) left all t e = omega arith

-- a list with an element that passes isn't empty
pub not_empty : {X : Type 0} (test : X → Bool) (xs : List X) → list_any test xs ≡ true → 0 < length xs
not_empty test [] t = absurd (false≢true t)
not_empty test (x ∷ xs) t = omega arith
