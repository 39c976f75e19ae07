-- Units have one packing at most.
use Rattle.pim_form.proofs.Words.{◌≡◌, ◌∙◌, ℕ, ◌+◌, ◌≤◌, true, false, List, [], ◌∷◌, ◌++◌, Option, None, Some, nat_le}
use Rattle.pim_form.proofs.Words.{refl, sym, subst, arith, append_assoc, false≢true, leb-true, le-leb, and_parts}
use Rattle.pim_form.proofs.Words.{and_from, append_cancel_left, AddressFamily, Ipv4, Ipv6, WantUnit, unit_group}
use Rattle.pim_form.proofs.Words.{run_entries, groups_behind, run_groups, run_size, BeginsWith, fits, most_groups}
use Rattle.pim_form.proofs.Words.{StopsBefore, IsNonempty, joined, AreRuns, IsPacking}

-- ---- the front of a run that fits

pub entries_append : (xs ys : List WantUnit) → run_entries (xs ++ ys) ≡ run_entries xs + run_entries ys
unfolding run_entries
entries_append [] ys = omega arith
entries_append (x ∷ xs) ys = omega (arith, entries_append xs ys)

groups_front : (before : Option (List ℕ)) (xs ys : List WantUnit) → groups_behind before xs ≤ groups_behind before (xs ++ ys)
unfolding groups_behind
groups_front before [] ys = omega arith
groups_front before (x ∷ xs) ys = omega (arith, groups_front (Some (unit_group x)) xs ys)

size_front : (family : AddressFamily) (xs ys : List WantUnit) → run_size family xs ≤ run_size family (xs ++ ys)
size_front Ipv4 xs ys = omega (arith, entries_append xs ys, groups_front None xs ys)
size_front Ipv6 xs ys = omega (arith, entries_append xs ys, groups_front None xs ys)

pub fits_parts : (family : AddressFamily) (budget : ℕ) (run : List WantUnit) → fits family budget run ≡ true → (run_size family run ≤ budget) × (run_groups run ≤ most_groups)
fits_parts family budget run h =
    let both = and_parts (nat_le (run_size family run) budget) (nat_le (run_groups run) most_groups) h in
    (leb-true (run_size family run) budget both.0, leb-true (run_groups run) most_groups both.1)

fits_front : (family : AddressFamily) (budget : ℕ) (xs ys : List WantUnit) → fits family budget (xs ++ ys) ≡ true → fits family budget xs ≡ true
fits_front family budget xs ys h =
    let whole = fits_parts family budget (xs ++ ys) h in
    and_from (nat_le (run_size family xs) budget) (nat_le (run_groups xs) most_groups)
    (le-leb (run_size family xs) budget (omega (arith, whole.0, size_front family xs ys)))
    (le-leb (run_groups xs) most_groups (omega (arith, whole.1, groups_front None xs ys)))

-- ---- two cuts of one list

module _ (family : AddressFamily) (budget : ℕ) where
  one_more : (front : List WantUnit) (x : WantUnit) (xs : List WantUnit) → (front ++ x ∷ []) ++ xs ≡ front ++ x ∷ xs
  one_more front x xs = simp append_assoc

  -- a run that stops here isn't a part of a longer one that fits
  stops : (front ys s t : List WantUnit) (y : WantUnit) → s ≡ y ∷ (ys ++ t) → StopsBefore family budget (front ++ []) s → fits family budget (front ++ y ∷ ys) ≡ true → ⊥
  stops front ys s t y h stop long =
      let no_room : fits family budget ((front ++ []) ++ y ∷ []) ≡ false = subst (StopsBefore family budget (front ++ [])) h stop in
      let short : fits family budget (front ++ y ∷ []) ≡ false = subst (λ (run : List WantUnit). fits family budget run ≡ false) (simp append_assoc) no_room in
      let room : fits family budget (front ++ y ∷ []) ≡ true =
      fits_front family budget (front ++ y ∷ []) ys (subst (λ (run : List WantUnit). fits family budget run ≡ true) (sym (one_more front y ys)) long) in
      false≢true (sym short ∙ room)

  cut : (front xs ys s t : List WantUnit) → xs ++ s ≡ ys ++ t → fits family budget (front ++ xs) ≡ true → fits family budget (front ++ ys) ≡ true
      → StopsBefore family budget (front ++ xs) s → StopsBefore family budget (front ++ ys) t → xs ≡ ys
  cut front [] [] s t h fit_x fit_y stop_x stop_y = refl
  cut front [] (y ∷ ys) s t h fit_x fit_y stop_x stop_y = absurd (stops front ys s t y h stop_x fit_y)
  cut front (x ∷ xs) [] s t h fit_x fit_y stop_x stop_y = absurd (stops front xs t s x (sym h) stop_y fit_x)
  cut front (x ∷ xs) (y ∷ ys) s t h fit_x fit_y stop_x stop_y =
      let head : x ≡ y = cc in
      let tail : xs ++ s ≡ ys ++ t = cc in
      let path_x = sym (one_more front x xs) in
      let path_y : front ++ y ∷ ys ≡ (front ++ x ∷ []) ++ ys = subst (λ (u : WantUnit). front ++ y ∷ ys ≡ (front ++ u ∷ []) ++ ys) (sym head) (sym (one_more front y ys)) in
      let others = cut (front ++ x ∷ []) xs ys s t tail
      (subst (λ (run : List WantUnit). fits family budget run ≡ true) path_x fit_x)
      (subst (λ (run : List WantUnit). fits family budget run ≡ true) path_y fit_y)
      (subst (λ (run : List WantUnit). StopsBefore family budget run s) path_x stop_x)
      (subst (λ (run : List WantUnit). StopsBefore family budget run t) path_y stop_y) in
      λ i. head i ∷ others i

  empty_run : (run left : List WantUnit) → IsNonempty run → [] ≡ run ++ left → ⊥
  empty_run [] left some h = some
  empty_run (u ∷ run) left some h = cc

  runs_same : (one other : List (List WantUnit)) → AreRuns family budget one → AreRuns family budget other → joined one ≡ joined other → one ≡ other
  unfolding AreRuns
  runs_same [] [] are_one are_other h = refl
  runs_same [] (q ∷ qs) are_one are_other h = absurd (empty_run q (joined qs) are_other.0 h)
  runs_same (r ∷ rs) [] are_one are_other h = absurd (empty_run r (joined rs) are_one.0 (sym h))
  runs_same (r ∷ rs) (q ∷ qs) are_one are_other h =
      let head : r ≡ q = cut [] r q (joined rs) (joined qs) h are_one.1 are_other.1 are_one.2 are_other.2 in
      let left : r ++ joined rs ≡ r ++ joined qs = subst (λ (run : List WantUnit). r ++ joined rs ≡ run ++ joined qs) (sym head) h in
      let tail = runs_same rs qs are_one.3 are_other.3 (append_cancel_left r (joined rs) (joined qs) left) in
      λ i. head i ∷ tail i

  pub one_packing : (units : List WantUnit) (one other : List (List WantUnit)) → IsPacking family budget units one → IsPacking family budget units other → one ≡ other
  one_packing units one other is_one is_other = runs_same one other is_one.cut is_other.cut (is_one.whole ∙ sym is_other.whole)

  pub first_run : (run left : List WantUnit) (runs : List (List WantUnit)) → IsNonempty run → fits family budget run ≡ true → StopsBefore family budget run left
      → IsPacking family budget (run ++ left) runs → BeginsWith family budget run left runs
  unfolding AreRuns
  first_run run left [] some fit stop is = absurd (empty_run run left some is.whole)
  first_run run left (q ∷ qs) some fit stop is =
      let head : run ≡ q = cut [] run q left (joined qs) (sym is.whole) fit is.cut.1 stop is.cut.2 in
      let tail : run ++ left ≡ run ++ joined qs = subst (λ (r : List WantUnit). run ++ left ≡ r ++ joined qs) (sym head) (sym is.whole) in
      record {
        others = qs;
        begins = λ i. sym head i ∷ qs;
        packing = record { whole = sym (append_cancel_left run left (joined qs) tail); cut = is.cut.3 };
      }
