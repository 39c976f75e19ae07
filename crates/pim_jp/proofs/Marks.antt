-- Numbers of a list in order that get a mark.
use Rattle.pim_jp.proofs.Words.{◌≡◌, ◌∙◌, sym, ap, refl, ℕ, zero, suc, ◌+◌, ◌≤◌, ◌<◌, Bool, true, false, ◌&&◌, ◌||◌, List, []}
use Rattle.pim_jp.proofs.Words.{◌∷◌, length, length-drop, take, drop, get_or, set, nat_eq, replicate, arith, eqb-true, drop_more}
use Rattle.pim_jp.proofs.Words.{take_more_set, take-set, list_any-append, list_any-IsPermutation, IsPermutation, from_bool}
use Rattle.pim_jp.proofs.Words.{number_of, Entry, Star, Source, Rpt, is_star, is_in, is_among, is_listed, is_marked, has_mark}
use Rattle.pim_jp.proofs.OtherWay.{star_in_none}

or_false : (a : Bool) → (a || false) ≡ a
or_false true = refl
or_false false = refl

regroup : (a b c : Bool) → ((a || b) || c) ≡ (a || (b || c))
regroup true b c = refl
regroup false b c = refl

marked_here : (m a e rest : Bool) → (((m || a) && e) || rest) ≡ (((m && e) || rest) || (a && e))
marked_here true true true rest = refl
marked_here true false true true = refl
marked_here true false true false = refl
marked_here false true true true = refl
marked_here false true true false = refl
marked_here false false true true = refl
marked_here false false true false = refl
marked_here true true false true = refl
marked_here true true false false = refl
marked_here true false false true = refl
marked_here true false false false = refl
marked_here false true false true = refl
marked_here false true false false = refl
marked_here false false false true = refl
marked_here false false false false = refl

no_number : (n value : ℕ) (is : ℕ → Bool) (test : Bool) → nat_eq n value ≡ test → is n ≡ true → is value ≡ false → test ≡ false
no_number n value is true same there none = let e = eqb-true n value same in let there' = sym (ap is e) ∙ there in absurd cc
no_number n value is false same there none = refl

module _ {N : Type 0} (value_of : N → ℕ) where
  -- the mark at a place
  mark_set : (xs : List N) (ms : List Bool) (k : ℕ) (x : N) (m answer : Bool) (n : ℕ) → k < length xs → length xs ≤ length ms
      → x ≡ get_or xs k x → m ≡ get_or ms k m
      → is_marked value_of xs (set ms k (m || answer)) n ≡ (is_marked value_of xs ms n || (answer && nat_eq n (value_of x)))
  unfolding is_marked
  mark_set [] ms k x m answer n within long at mark_at = absurd (omega (arith, within))
  mark_set (y ∷ xs) [] k x m answer n within long at mark_at = absurd (omega (arith, long))
  mark_set (y ∷ xs) (v ∷ ms) zero x m answer n within long at mark_at =
      let number : x ≡ y = at in
      let mark : m ≡ v = mark_at in
      rw (number, mark) (marked_here v answer (nat_eq n (value_of y)) (is_marked value_of xs ms n))
  mark_set (y ∷ xs) (v ∷ ms) (suc k) x m answer n within long at mark_at =
      ap (λ b. (v && nat_eq n (value_of y)) || b) (mark_set xs ms k x m answer n (omega (arith, within)) (omega (arith, long)) at mark_at)
      ∙ sym (regroup (v && nat_eq n (value_of y)) (is_marked value_of xs ms n) (answer && nat_eq n (value_of x)))

  pub marked_more : (xs : List N) (ms : List Bool) (k : ℕ) (x item : N) (m answer : Bool) → k < length xs → length xs ≤ length ms
      → x ≡ get_or xs k x → m ≡ get_or ms k m → answer ≡ is_among value_of xs (value_of item) → (answer ≡ true → value_of x ≡ value_of item)
      → (n : ℕ) → is_among value_of xs n ≡ true
      → is_marked value_of xs (set ms k (m || answer)) n ≡ (is_marked value_of xs ms n || nat_eq n (value_of item))
  marked_more xs ms k x item m true within long at mark_at found same n there =
      mark_set xs ms k x m true n within long at mark_at ∙ ap (λ v. is_marked value_of xs ms n || nat_eq n v) (same refl)
  marked_more xs ms k x item m false within long at mark_at found same n there =
      mark_set xs ms k x m false n within long at mark_at
      ∙ ap (λ b. is_marked value_of xs ms n || b) (sym (no_number n (value_of item) (is_among value_of xs) (nat_eq n (value_of item)) refl there (sym found)))

  pub none_there : (xs : List N) (n : ℕ) → length xs ≤ 0 → is_among value_of xs n ≡ true → ⊥
  none_there [] n none there = cc
  none_there (x ∷ xs) n none there = omega arith

  pub unmarked : (xs : List N) (count n : ℕ) → is_marked value_of xs (replicate count false) n ≡ false
  unfolding is_marked
  unmarked [] count n = refl
  unmarked (x ∷ xs) zero n = refl
  unmarked (x ∷ xs) (suc count) n = unmarked xs count n

  -- ---- the marked ones are copied

  copied_step : (copies : List N) (done : ℕ) (x : N) (m : Bool) (n : ℕ) → done < length copies
      → is_among value_of (take (done + from_bool m) (set copies done x)) n ≡ (is_among value_of (take done copies) n || (m && nat_eq n (value_of x)))
  copied_step copies done x true n within =
      ap (λ xs. is_among value_of xs n) (take_more_set copies done x within)
      ∙ list_any-append (λ other. nat_eq n (value_of other)) (take done copies) (x ∷ [])
      ∙ ap (λ b. is_among value_of (take done copies) n || b) (or_false (nat_eq n (value_of x)))
  copied_step copies done x false n within =
      ap (λ k. is_among value_of (take k (set copies done x)) n) (omega arith)
      ∙ ap (λ xs. is_among value_of xs n) (take-set copies done x) ∙ sym (or_false (is_among value_of (take done copies) n))

  marked_step : (xs : List N) (ms : List Bool) (k : ℕ) (x : N) (m : Bool) (n : ℕ) → k < length xs → length xs ≤ length ms → x ≡ get_or xs k x → m ≡ get_or ms k m
      → is_marked value_of (drop k xs) (drop k ms) n ≡ ((m && nat_eq n (value_of x)) || is_marked value_of (drop (k + 1) xs) (drop (k + 1) ms) n)
  unfolding is_marked
  marked_step xs ms k x m n within long at mark_at =
      rw (drop_more xs k x within, drop_more ms k m (omega (arith, within, long)), ← at, ← mark_at) refl

  pub copied_more : (xs copies : List N) (ms : List Bool) (k done next : ℕ) (x : N) (m all : Bool) (n : ℕ) → k < length xs → length xs ≤ length ms → done < length copies
      → x ≡ get_or xs k x → m ≡ get_or ms k m → next ≡ done + from_bool m
      → all ≡ (is_among value_of (take done copies) n || is_marked value_of (drop k xs) (drop k ms) n)
      → all ≡ (is_among value_of (take next (set copies done x)) n || is_marked value_of (drop (k + 1) xs) (drop (k + 1) ms) n)
  copied_more xs copies ms k done next x m all n within long room at mark_at is before =
      before ∙ ap (λ b. is_among value_of (take done copies) n || b) (marked_step xs ms k x m n within long at mark_at)
      ∙ sym (regroup (is_among value_of (take done copies) n) (m && nat_eq n (value_of x)) (is_marked value_of (drop (k + 1) xs) (drop (k + 1) ms) n))
      ∙ ap (λ b. b || is_marked value_of (drop (k + 1) xs) (drop (k + 1) ms) n) (sym (copied_step copies done x m n room))
      ∙ ap (λ j. is_among value_of (take j (set copies done x)) n || is_marked value_of (drop (k + 1) xs) (drop (k + 1) ms) n) (sym is)

  marked_none : (xs : List N) (ms : List Bool) (n : ℕ) → length xs ≤ 0 → is_marked value_of xs ms n ≡ false
  unfolding is_marked
  marked_none [] ms n none = refl
  marked_none (x ∷ xs) ms n none = absurd (omega (arith, none))

  -- ---- all of them

  pub nothing_marked : (sources rpts : List N) (source_count rpt_count : ℕ) (this : Entry (List ℕ)) → has_mark value_of sources rpts (replicate source_count false) (replicate rpt_count false) this ≡ false
  nothing_marked sources rpts source_count rpt_count (Star rp) = refl
  nothing_marked sources rpts source_count rpt_count (Source source) = unmarked sources source_count (number_of source)
  nothing_marked sources rpts source_count rpt_count (Rpt source) = unmarked rpts rpt_count (number_of source)

  pub listed_copies : (sources rpts source_copies rpt_copies : List N) (source_marks rpt_marks : List Bool)
      → ((n : ℕ) → is_among value_of source_copies n ≡ is_marked value_of sources source_marks n)
      → ((n : ℕ) → is_among value_of rpt_copies n ≡ is_marked value_of rpts rpt_marks n)
      → (this : Entry (List ℕ)) → is_listed value_of source_copies rpt_copies this ≡ has_mark value_of sources rpts source_marks rpt_marks this
  listed_copies sources rpts source_copies rpt_copies source_marks rpt_marks of_sources of_rpts (Star rp) = refl
  listed_copies sources rpts source_copies rpt_copies source_marks rpt_marks of_sources of_rpts (Source source) = of_sources (number_of source)
  listed_copies sources rpts source_copies rpt_copies source_marks rpt_marks of_sources of_rpts (Rpt source) = of_rpts (number_of source)

  pub in_marked : (joined : List (Entry (List ℕ))) (sources rpts source_copies rpt_copies : List N) (old new : Bool) (this : Entry (List ℕ))
      → (is_star this ≡ false → is_listed value_of sources rpts this ≡ true)
      → (is_listed value_of sources rpts this ≡ true → new ≡ (old || is_in joined this)) → old ≡ false
      → is_listed value_of source_copies rpt_copies this ≡ new → is_in joined this ≡ is_listed value_of source_copies rpt_copies this
  in_marked joined sources rpts source_copies rpt_copies old new (Star rp) listed marked none copied = star_in_none joined rp
  in_marked joined sources rpts source_copies rpt_copies old new (Source source) listed marked none copied =
      sym (copied ∙ marked (listed refl) ∙ ap (λ b. b || is_in joined (Source source)) none)
  in_marked joined sources rpts source_copies rpt_copies old new (Rpt source) listed marked none copied =
      sym (copied ∙ marked (listed refl) ∙ ap (λ b. b || is_in joined (Rpt source)) none)

  pub same_as_copies : (joined : List (Entry (List ℕ))) (sources rpts : List N) (source_marks rpt_marks : List Bool) (size : ℕ)
      (source_copies rpt_copies sorted_sources sorted_rpts : List N) → IsPermutation source_copies sorted_sources → IsPermutation rpt_copies sorted_rpts
      → ((n : ℕ) → is_among value_of source_copies n ≡ is_marked value_of sources source_marks n)
      → ((n : ℕ) → is_among value_of rpt_copies n ≡ is_marked value_of rpts rpt_marks n)
      → (this : Entry (List ℕ)) → (is_star this ≡ false → is_listed value_of sources rpts this ≡ true)
      → (is_listed value_of sources rpts this ≡ true
      → has_mark value_of sources rpts source_marks rpt_marks this ≡ (has_mark value_of sources rpts (replicate size false) (replicate size false) this || is_in joined this))
      → is_in joined this ≡ is_listed value_of sorted_sources sorted_rpts this
  same_as_copies joined sources rpts source_marks rpt_marks size source_copies rpt_copies sorted_sources sorted_rpts moved_sources moved_rpts of_sources of_rpts this listed marked =
      in_marked joined sources rpts sorted_sources sorted_rpts (has_mark value_of sources rpts (replicate size false) (replicate size false) this)
      (has_mark value_of sources rpts source_marks rpt_marks this) this listed marked (nothing_marked sources rpts size size this)
      (listed_copies sources rpts sorted_sources sorted_rpts source_marks rpt_marks
      (λ n. sym (list_any-IsPermutation (λ other. nat_eq n (value_of other)) source_copies sorted_sources moved_sources) ∙ of_sources n)
      (λ n. sym (list_any-IsPermutation (λ other. nat_eq n (value_of other)) rpt_copies sorted_rpts moved_rpts) ∙ of_rpts n) this)

  pub copied_all : (xs : List N) (ms : List Bool) (k : ℕ) (all copied : Bool) (n : ℕ) → length xs ≤ k
      → all ≡ (copied || is_marked value_of (drop k xs) (drop k ms) n) → copied ≡ all
  copied_all xs ms k all copied n ends is =
      sym (is ∙ ap (λ b. copied || b) (marked_none (drop k xs) (drop k ms) n (omega (arith, length-drop k xs, ends))) ∙ or_false copied)
