-- A plan that is begun, goes on with a whole group, closes a message, and ends.
use Rattle.pim_form.proofs.Words.{◌≡◌, ◌∙◌, ℕ, ◌+◌, ◌≤◌, ◌<◌, true, List, [], ◌∷◌, ◌++◌, None, length, map, refl, sym, ap, subst}
use Rattle.pim_form.proofs.Words.{arith, append_assoc, AllByRecursion, append-nil, map-append, flat_map-append, AddressFamily}
use Rattle.pim_form.proofs.Words.{Ipv4, Ipv6, GroupPlace, GroupForm, IsNormalGroup, WantUnit, units_of, run_entries, fits}
use Rattle.pim_form.proofs.Words.{StopsBefore, IsNonempty, joined, AreRuns, IsPacking, too_big, place_seen, form_seen, IsKept}
use Rattle.pim_form.proofs.Words.{run_of, parts_from, AreEnds, IsPlan, HasRoom, Filled, IsFilling, ends_from}
use Rattle.pim_form.proofs.Lists.{all_append}
use Rattle.pim_form.proofs.Units.{IsSome, first_unit}
use Rattle.pim_form.proofs.Kept.{places_count}
use Rattle.pim_form.proofs.PlanSizes.{units_append, fits_by}
use Rattle.pim_form.proofs.PlanRows.{holds, kept, holds_front, holds_behind}
use Rattle.pim_form.proofs.PlanEnds.{all_of, ends_more, ends_are, parts_are}

empty_room : (family : AddressFamily) (budget : ℕ) → 70 ≤ budget → HasRoom family budget 0 0
empty_room Ipv4 budget least = (omega arith, omega arith)
empty_room Ipv6 budget least = (omega arith, omega arith)

no_entries : 0 ≡ run_entries []
unfolding run_entries
no_entries = refl

module _ {A : Type 0} (bytes_of : A → List ℕ) (family : AddressFamily) (budget : ℕ) (row : List A) where
  pub run_append : (xs ys : List (GroupPlace A)) → run_of bytes_of row (xs ++ ys) ≡ run_of bytes_of row xs ++ run_of bytes_of row ys
  run_append xs ys = ap units_of (map-append (place_seen bytes_of row) xs ys) ∙ units_append (form_seen bytes_of row xs) (form_seen bytes_of row ys)

  pub some : (xs : List (GroupPlace A)) → IsKept bytes_of family row xs → AllByRecursion IsSome (form_seen bytes_of row xs)
  some xs is = all_some (form_seen bytes_of row xs) is.normal.groups
    where
      all_some : (form : List GroupForm) → AllByRecursion (IsNormalGroup family) form → AllByRecursion IsSome form
      all_some [] all = tt
      all_some (a ∷ form) all = (all.0.some, all_some form all.1)

  pub starts : (places : List (GroupPlace A)) → IsKept bytes_of family row places → too_big family budget (form_seen bytes_of row places) ≡ None → 70 ≤ budget
      → IsFilling bytes_of family budget row places places (record { pieces = []; ends = []; groups = 0; entries = 0 })
  unfolding ends_from
  starts places is fit least = record {
    closed = [];
    begun = [];
    pieces = refl;
    ends = refl;
    groups = refl;
    entries = no_entries;
    room = empty_room family budget least;
    done = tt;
    kept = is;
    packs = λ runs packing. packing;
    fits = fit;
    least = least;
  }

  module _ (places left : List (GroupPlace A)) (filled : Filled A) (f : IsFilling bytes_of family budget row places left filled) where
    -- some pieces are a message, and others are left
    pub closes : (pieces front behind : List (GroupPlace A)) → IsNonempty (run_of bytes_of row front) → IsKept bytes_of family row front → IsKept bytes_of family row behind
        → run_of bytes_of row (f.begun ++ left) ≡ run_of bytes_of row front ++ run_of bytes_of row behind
        → fits family budget (run_of bytes_of row front) ≡ true → StopsBefore family budget (run_of bytes_of row front) (run_of bytes_of row behind)
        → too_big family budget (form_seen bytes_of row behind) ≡ None → pieces ≡ all_of f.closed ++ front
        → IsFilling bytes_of family budget row places behind (record { pieces = pieces; ends = filled.ends ++ length pieces ∷ []; groups = 0; entries = 0 })
    unfolding AreRuns
    closes pieces front behind nonempty kept_front kept_behind same fit stops small are =
        let whole : all_of (f.closed ++ front ∷ []) ≡ pieces =
        flat_map-append (λ (part : List (GroupPlace A)). part) f.closed (front ∷ []) ∙ ap (λ (xs : List (GroupPlace A)). all_of f.closed ++ xs) (append-nil front) ∙ sym are in
        let run : List WantUnit = run_of bytes_of row front in
        record {
          closed = f.closed ++ front ∷ [];
          begun = [];
          pieces = sym whole ∙ sym (append-nil (all_of (f.closed ++ front ∷ [])));
          ends = ap (λ (ends : List ℕ). ends ++ length pieces ∷ []) f.ends
              ∙ ap (λ (xs : List (GroupPlace A)). ends_from 0 f.closed ++ length xs ∷ []) (sym whole)
              ∙ ap (λ n. ends_from 0 f.closed ++ n ∷ []) (omega arith)
              ∙ sym (ends_more 0 f.closed front);
          groups = refl;
          entries = no_entries;
          room = empty_room family budget f.least;
          done = all_append (IsKept bytes_of family row) f.closed (front ∷ []) f.done (kept_front, tt);
          kept = kept_behind;
          packs = λ runs packing.
              let stops' : StopsBefore family budget run (joined runs) = subst (StopsBefore family budget run) (sym packing.whole) stops in
              let more : IsPacking family budget (run_of bytes_of row (f.begun ++ left)) (run ∷ runs) = record {
                whole = ap (λ (us : List WantUnit). run ++ us) packing.whole ∙ sym same;
                cut = (nonempty, fit, stops', packing.cut);
              } in
              let list : map (run_of bytes_of row) f.closed ++ run ∷ runs ≡ map (run_of bytes_of row) (f.closed ++ front ∷ []) ++ runs =
              sym (append_assoc (map (run_of bytes_of row) f.closed) (run ∷ []) runs)
              ∙ ap (λ (rs : List (List WantUnit)). rs ++ runs) (sym (map-append (run_of bytes_of row) f.closed (front ∷ []))) in
              subst (IsPacking family budget (run_of bytes_of row places)) list (f.packs (run ∷ runs) more);
          fits = small;
          least = f.least;
        }

    pub kept_begun : IsKept bytes_of family row f.begun
    kept_begun = kept bytes_of family row f.begun (holds_front bytes_of family row f.begun left (holds bytes_of family row (f.begun ++ left) f.kept))

    pub fits_begun : fits family budget (run_of bytes_of row f.begun) ≡ true
    fits_begun =
        let groups : filled.groups ≡ length (form_seen bytes_of row f.begun) = f.groups ∙ sym (places_count bytes_of row f.begun) in
        let room : HasRoom family budget (length (form_seen bytes_of row f.begun)) filled.entries = subst (λ n. HasRoom family budget n filled.entries) groups f.room in
        fits_by family budget (form_seen bytes_of row f.begun) kept_begun.normal.ascending (some f.begun kept_begun)
        (subst (λ n. HasRoom family budget (length (form_seen bytes_of row f.begun)) n) f.entries room)

  pub nonempty : (xs : List (GroupPlace A)) → 0 < length xs → AllByRecursion IsSome (form_seen bytes_of row xs) → IsNonempty (run_of bytes_of row xs)
  nonempty [] long all = absurd (omega arith)
  nonempty (x ∷ xs) long all =
      let first = first_unit (place_seen bytes_of row x) (run_of bytes_of row xs) all.0 in
      let begins = first.begins in
      let here : IsNonempty (first.this ∷ first.others) = tt in
      subst IsNonempty (sym begins) here

  -- the last message is closed
  pub last_closes : (places : List (GroupPlace A)) (filled : Filled A) → IsFilling bytes_of family budget row places [] filled → (filled.groups ≡ 0 → ⊥)
      → IsFilling bytes_of family budget row places [] (record { pieces = filled.pieces; ends = filled.ends ++ length filled.pieces ∷ []; groups = 0; entries = 0 })
  last_closes places filled f open_one =
      let is = kept_begun places [] filled f in
      let long : 0 < length f.begun = omega (arith, f.groups) in
      let none : IsKept bytes_of family row [] = kept bytes_of family row [] (holds_behind bytes_of family row f.begun [] (holds bytes_of family row (f.begun ++ []) f.kept)) in
      closes places [] filled f filled.pieces f.begun [] (nonempty f.begun long (some f.begun is)) is none
      (run_append f.begun []) (fits_begun places [] filled f) tt refl f.pieces

  empty_begun : (xs : List (GroupPlace A)) → 0 ≡ length xs → xs ≡ []
  empty_begun [] none = refl
  empty_begun (x ∷ xs) none = absurd (omega arith)

  pub plan_ends : (places : List (GroupPlace A)) (filled : Filled A) → IsFilling bytes_of family budget row places [] filled → filled.groups ≡ 0
      → IsPlan bytes_of family budget row places filled.pieces filled.ends
  unfolding AreRuns
  plan_ends places filled f closed_all =
      let none : f.begun ≡ [] = empty_begun f.begun (sym closed_all ∙ f.groups) in
      let pieces : filled.pieces ≡ all_of f.closed = f.pieces ∙ ap (λ (xs : List (GroupPlace A)). all_of f.closed ++ xs) none ∙ append-nil (all_of f.closed) in
      let parts : parts_from 0 filled.ends filled.pieces ≡ f.closed =
      ap (λ (ends : List ℕ). parts_from 0 ends filled.pieces) f.ends ∙ ap (λ (xs : List (GroupPlace A)). parts_from 0 (ends_from 0 f.closed) xs) pieces ∙ parts_are [] f.closed in
      let units : run_of bytes_of row (f.begun ++ []) ≡ [] = ap (λ (xs : List (GroupPlace A)). run_of bytes_of row (xs ++ [])) none in
      let nothing : IsPacking family budget [] [] = record { whole = refl; cut = tt } in
      let packing = f.packs [] (subst (λ (us : List WantUnit). IsPacking family budget us []) (sym units) nothing) in
      let whole : AreEnds 0 (0 + length (all_of f.closed)) (ends_from 0 f.closed) = ends_are 0 f.closed in
      let long : 0 + length (all_of f.closed) ≡ length filled.pieces = omega (arith, ap length pieces) in
      record {
        whole = subst (λ (ends : List ℕ). AreEnds 0 (length filled.pieces) ends) (sym f.ends) (subst (λ n. AreEnds 0 n (ends_from 0 f.closed)) long whole);
        kept = subst (AllByRecursion (IsKept bytes_of family row)) (sym parts) f.done;
        packing = subst (λ (parts : List (List (GroupPlace A))). IsPacking family budget (run_of bytes_of row places) (map (run_of bytes_of row) parts)) (sym parts)
            (subst (IsPacking family budget (run_of bytes_of row places)) (append-nil (map (run_of bytes_of row) f.closed)) packing);
      }
