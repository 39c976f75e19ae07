-- One more range: where a number becomes the end of one.
use Rattle.pim_addr.proofs.Words.{◌≡◌, ℕ, zero, suc, ◌<◌, ◌≤◌, ◌⊎◌, inl, inr, List, [], ◌∷◌, length, map, get_or, refl}
use Rattle.pim_addr.proofs.Words.{sym, ap, subst, ◌∙◌, arith, nat_lt, add-one, Option, None, insert, cases_lt, lt-ltb}
use Rattle.pim_addr.proofs.Words.{le-ltb, prefix_len-le-length, length-insert, get_or-insert_below, get_or-insert_at}
use Rattle.pim_addr.proofs.Words.{get_or-insert_above, Row, Rises, before, answer_of, AreRanges, IsEnd, KeepAnswers}

pub before_within : (n : ℕ) (ends : List ℕ) → before n ends ≤ length ends
unfolding before
before_within n ends = prefix_len-le-length (λ end. nat_lt end n) ends

-- ---- how many end before a number

none_before : (n end : ℕ) (ends : List ℕ) → n ≤ end → before n (end ∷ ends) ≡ 0
unfolding before
none_before n end ends l = rw (le-ltb end n l) refl

one_before : (n end : ℕ) (ends : List ℕ) → end < n → before n (end ∷ ends) ≡ suc (before n ends)
unfolding before
one_before n end ends l = rw (lt-ltb end n l) (omega arith)

pub before_rises : (m n : ℕ) (ends : List ℕ) → m ≤ n → before m ends ≤ before n ends
before_rises m n [] l = omega (arith, before_within m [])
before_rises m n (end ∷ ends) l = by (cases_lt end m) (before_rises m n ends l)
  where
    by : (end < m) ⊎ (m ≤ end) → before m ends ≤ before n ends → before m (end ∷ ends) ≤ before n (end ∷ ends)
    by (inl below) more = omega (arith, one_before m end ends below, one_before n end ends (omega (arith, below, l)), more)
    by (inr above) more = omega (arith, none_before m end ends above)

-- one more end counts for the numbers above it
pub before_insert : (n number : ℕ) (ends : List ℕ) → (n ≤ number → before n (insert ends (before number ends) number) ≡ before n ends)
    × (number < n → before n (insert ends (before number ends) number) ≡ suc (before n ends))
unfolding before
before_insert n number [] = (λ l. none_before n number [] l, λ l. one_before n number [] l)
before_insert n number (end ∷ ends) = by (cases_lt end number) (before_insert n number ends)
  where
    by : (end < number) ⊎ (number ≤ end) →
        (n ≤ number → before n (insert ends (before number ends) number) ≡ before n ends) × (number < n → before n (insert ends (before number ends) number) ≡ suc (before n ends)) →
        (n ≤ number → before n (insert (end ∷ ends) (before number (end ∷ ends)) number) ≡ before n (end ∷ ends))
        × (number < n → before n (insert (end ∷ ends) (before number (end ∷ ends)) number) ≡ suc (before n (end ∷ ends)))
    by (inl below) more = (
      λ l. ap (λ i. before n (insert (end ∷ ends) i number)) (one_before number end ends below) ∙ first l (cases_lt end n),
      λ l. ap (λ i. before n (insert (end ∷ ends) i number)) (one_before number end ends below)
          ∙ one_before n end (insert ends (before number ends) number) (omega (arith, below, l)) ∙ ap suc (more.1 l) ∙ sym (ap suc (one_before n end ends (omega (arith, below, l)))),
    )
      where
        first : n ≤ number → (end < n) ⊎ (n ≤ end) → before n (end ∷ insert ends (before number ends) number) ≡ before n (end ∷ ends)
        first l (inl under) = one_before n end (insert ends (before number ends) number) under ∙ ap suc (more.0 l) ∙ sym (one_before n end ends under)
        first l (inr over) = none_before n end (insert ends (before number ends) number) over ∙ sym (none_before n end ends over)
    by (inr above) more = (
      λ l. ap (λ i. before n (insert (end ∷ ends) i number)) (none_before number end ends above) ∙ none_before n number (end ∷ ends) l ∙ sym (none_before n end ends (omega (arith, l, above))),
      λ l. ap (λ i. before n (insert (end ∷ ends) i number)) (none_before number end ends above) ∙ one_before n number (end ∷ ends) l,
    )

-- ---- the end at a number's place

pub end_there : (number : ℕ) (ends : List ℕ) (d : ℕ) → before number ends < length ends → get_or ends (before number ends) d ≡ number → IsEnd number ends
end_there number [] d l e = absurd (omega arith)
end_there number (end ∷ ends) d l e = by (cases_lt end number) (end_there number ends d)
  where
    by : (end < number) ⊎ (number ≤ end) → (before number ends < length ends → get_or ends (before number ends) d ≡ number → IsEnd number ends) → IsEnd number (end ∷ ends)
    by (inl below) later =
        let here = one_before number end ends below in
        let more : IsEnd number ends = later (omega (arith, l, here)) (ap (λ i. get_or (end ∷ ends) i d) (sym here) ∙ e) in
        omega (arith, here, one_before (suc number) end ends (omega (arith, below)), more)
    by (inr above) later =
        let here = none_before number end ends above in
        let same : end ≡ number = ap (λ i. get_or (end ∷ ends) i d) (sym here) ∙ e in
        omega (arith, here, one_before (suc number) end ends (omega (arith, same)))

rises_with : (number : ℕ) (ends : List ℕ) (least : ℕ) → least ≤ number → Rises least ends →
    (before number ends < length ends → get_or ends (before number ends) number ≡ number → ⊥) → Rises least (insert ends (before number ends) number)
unfolding before
rises_with number [] least l h none = (l, tt)
rises_with number (end ∷ ends) least l h none = by (cases_lt end number) (λ below. rises_with number ends (suc end) below h.1)
  where
    by : (end < number) ⊎ (number ≤ end) →
        (end < number → (before number ends < length ends → get_or ends (before number ends) number ≡ number → ⊥) → Rises (suc end) (insert ends (before number ends) number)) →
        Rises least (insert (end ∷ ends) (before number (end ∷ ends)) number)
    by (inl below) later =
        let here : before number (end ∷ ends) ≡ suc (before number ends) = one_before number end ends below in
        let more : Rises (suc end) (insert ends (before number ends) number) =
        later below (λ m e. none (omega (arith, here, m)) (ap (λ i. get_or (end ∷ ends) i number) here ∙ e)) in
        subst (λ i. Rises least (insert (end ∷ ends) i number)) (sym here) (h.0, more)
    by (inr above) later =
        let here : before number (end ∷ ends) ≡ 0 = none_before number end ends above in
        subst (λ i. Rises least (insert (end ∷ ends) i number)) (sym here) (l, (apart here (cases_lt number end), h.1))
      where
        apart : before number (end ∷ ends) ≡ 0 → (number < end) ⊎ (end ≤ number) → number < end
        apart here (inl m) = m
        apart here (inr m) = absurd (none (omega (arith, here)) (ap (λ i. get_or (end ∷ ends) i number) here ∙ omega (arith, above, m)))

-- ---- one more range

module _ (ends : List ℕ) (answers : List (Option Row)) (number : ℕ) (answer : Option Row) (ranges : AreRanges ends answers) (is : answer ≡ answer_of ends answers number) where
  abbrev place : ℕ
  place = before number ends

  within : place ≤ length answers
  within =
      let few = before_within number ends in
      omega (arith, few, ranges.paired)

  pub still_ranges : (before number ends < length ends → get_or ends (before number ends) number ≡ number → ⊥) → AreRanges (insert ends (before number ends) number) (insert answers (before number ends) answer)
  still_ranges none = record {
    rises = rises_with number ends 0 (omega arith) ranges.rises none;
    paired = omega (arith, length-insert ends place number (before_within number ends), length-insert answers place answer within, ranges.paired);
  }

  pub ends_there : IsEnd number (insert ends (before number ends) number)
  ends_there = omega (arith, (before_insert number number ends).0 (omega arith), (before_insert (suc number) number ends).1 (omega arith), before_rises number (suc number) ends (omega arith))

  same : (n : ℕ) → (number < n) ⊎ (n ≤ number) → answer_of (insert ends place number) (insert answers place answer) n ≡ answer_of ends answers n
  same n (inl above) =
      ap (λ i. get_or (insert answers place answer) i None) ((before_insert n number ends).1 above ∙ sym (add-one _))
      ∙ get_or-insert_above answers place answer None (before n ends) (before_rises number n ends (omega (arith, above))) within
  same n (inr below) = ap (λ i. get_or (insert answers place answer) i None) ((before_insert n number ends).0 below) ∙ by (cases_lt (before n ends) place)
    where
      by : (before n ends < place) ⊎ (place ≤ before n ends) → get_or (insert answers place answer) (before n ends) None ≡ get_or answers (before n ends) None
      by (inl l) = get_or-insert_below answers place answer None (before n ends) l within
      by (inr l) =
          let here : before n ends ≡ place = omega (arith, l, before_rises n number ends below) in
          ap (λ i. get_or (insert answers place answer) i None) here ∙ get_or-insert_at answers place answer None within ∙ is ∙ ap (λ i. get_or answers i None) (sym here)

  apart : (one other : ℕ) → before one ends < before other ends → (number < one) ⊎ (one ≤ number) → (number < other) ⊎ (other ≤ number) → before one (insert ends place number) < before other (insert ends place number)
  apart one other l (inl m) (inl n) = omega (arith, l, (before_insert one number ends).1 m, (before_insert other number ends).1 n)
  apart one other l (inl m) (inr n) = absurd (omega (arith, l, before_rises other one ends (omega (arith, m, n))))
  apart one other l (inr m) (inl n) = omega (arith, l, (before_insert one number ends).0 m, (before_insert other number ends).1 n)
  apart one other l (inr m) (inr n) = omega (arith, l, (before_insert one number ends).0 m, (before_insert other number ends).0 n)

  pub keep_answers : KeepAnswers ends answers (insert ends (before number ends) number) (insert answers (before number ends) answer)
  keep_answers = record {
    same = λ n. same n (cases_lt number n);
    apart = λ one other l. apart one other l (cases_lt number one) (cases_lt number other);
  }

-- what is true where the number has become the end of a range
pub one_more_range : (ends : List ℕ) (answers : List (Option Row)) (number : ℕ) (answer : Option Row) (ends' : List ℕ) (answers' : List (Option Row)) → AreRanges ends answers → answer ≡ answer_of ends answers number →
    (before number ends < length ends → get_or ends (before number ends) number ≡ number → ⊥) →
    ends' ≡ insert ends (before number ends) number → answers' ≡ insert answers (before number ends) answer →
    AreRanges ends' answers' × IsEnd number ends' × KeepAnswers ends answers ends' answers'
one_more_range ends answers number answer ends' answers' ranges is none e f =
    rw (e, f) (still_ranges ends answers number answer ranges is none, ends_there ends answers number answer ranges is, keep_answers ends answers number answer ranges is)

-- ---- mapped

pub map_insert : {X Y : Type 0} (f : X → Y) (xs : List X) (i : ℕ) (x : X) → map f (insert xs i x) ≡ insert (map f xs) i (f x)
map_insert f [] zero x = refl
map_insert f [] (suc i) x = refl
map_insert f (y ∷ ys) zero x = refl
map_insert f (y ∷ ys) (suc i) x = ap (λ rest. f y ∷ rest) (map_insert f ys i x)
