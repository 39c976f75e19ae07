-- Pieces of a group, and how the plan goes on with them.
use Rattle.pim_form.proofs.Words.{◌≡◌, ◌∙◌, ℕ, ◌+◌, ◌-◌, ◌*◌, ◌≤◌, ◌<◌, ◌↔◌, Bool, true, false, List, [], ◌∷◌, ◌++◌}
use Rattle.pim_form.proofs.Words.{Option, None, Some, length, map, is_some, if◌then◌else◌, ⊎_elim, refl, sym, ap, subst}
use Rattle.pim_form.proofs.Words.{arith, length-append, append_assoc, flat_map, append-nil, map-append, length-map}
use Rattle.pim_form.proofs.Words.{leb-true, true≢false, cases_lt, AddressFamily, Ipv4, Ipv6, IsSourceAddress}
use Rattle.pim_form.proofs.Words.{GroupPlace, GroupForm, IsNormalGroup, is_empty, WantUnit, star_unit, source_unit}
use Rattle.pim_form.proofs.Words.{star_units, group_units, units_of, run_entries, empty_message_size, empty_set_size}
use Rattle.pim_form.proofs.Words.{entry_size, fits, StopsBefore, IsPacking, star_fits, too_big, between, star_of}
use Rattle.pim_form.proofs.Words.{exceptions_of, IsWithin, place_group, place_seen, form_seen, IsKept, run_of}
use Rattle.pim_form.specs.Filling.{HasRoom, Filled, IsFilling, IsNext, star_entries, place_sources}
use Rattle.pim_form.proofs.Lists.{all_front, all_behind}
use Rattle.pim_form.proofs.Kept.{places_count}
use Rattle.pim_form.proofs.StarSize.{star_fits_by}
use Rattle.pim_form.proofs.PlanSizes.{entries_of_star, no_entries, entries_more, fits_by, fits_not}
use Rattle.pim_form.proofs.PlanRows.{meets, length-between, first_of, lone, ascending_front, ascending_behind, IsGood, Holds, holds, kept, holds_front, holds_behind, holds_with}
use Rattle.pim_form.proofs.PlanFilling.{closes, kept_begun, fits_begun, run_append, some, nonempty}

-- its star, if it has one, and its sources before this one
abbrev pub front_piece : {A : Type 0} → ℕ → GroupPlace A → GroupPlace A
front_piece middle p = record p { sources_end = middle }

-- its sources from this one on
abbrev pub rest_piece : {A : Type 0} → ℕ → GroupPlace A → GroupPlace A
rest_piece middle p = record p { starred = false; sources_start = middle; exceptions_end = p.exceptions_start }

-- ---- groups

cut_units : (x : List ℕ) (star : Option (List (List ℕ))) (ys zs : List (List ℕ))
    → group_units (record { group = x; star = star; sources = ys ++ zs }) ≡ group_units (record { group = x; star = star; sources = ys }) ++ map (source_unit x) zs
cut_units x star ys zs =
    ap (λ (us : List WantUnit). star_units x star ++ us) (map-append (source_unit x) ys zs) ∙ sym (append_assoc (star_units x star) (map (source_unit x) ys) (map (source_unit x) zs))

normal_front : (family : AddressFamily) (x : List ℕ) (star : Option (List (List ℕ))) (ys zs : List (List ℕ)) → IsNormalGroup family (record { group = x; star = star; sources = ys ++ zs })
    → is_empty star ys ≡ false → IsNormalGroup family (record { group = x; star = star; sources = ys })
normal_front family x star ys zs is some_one = record {
  group = is.group;
  exceptions = is.exceptions;
  ascending = ascending_front ys zs is.ascending;
  sources = all_front (IsSourceAddress family) ys zs is.sources;
  some = some_one;
}

normal_rest : (family : AddressFamily) (x : List ℕ) (star : Option (List (List ℕ))) (ys zs : List (List ℕ)) → IsNormalGroup family (record { group = x; star = star; sources = ys ++ zs })
    → is_empty None zs ≡ false → IsNormalGroup family (record { group = x; star = None; sources = zs })
normal_rest family x star ys zs is some_one = record {
  group = is.group;
  exceptions = tt;
  ascending = ascending_behind ys zs is.ascending;
  sources = all_behind (IsSourceAddress family) ys zs is.sources;
  some = some_one;
}

empty_by : (star : Option (List (List ℕ))) (xs : List (List ℕ)) → 0 < length xs → is_empty star xs ≡ false
empty_by None [] long = absurd (omega arith)
empty_by None (x ∷ xs) long = refl
empty_by (Some exceptions) xs long = refl

module _ {A : Type 0} (bytes_of : A → List ℕ) (family : AddressFamily) (row : List A) (p : GroupPlace A) (within : IsWithin (length row) p) where
  abbrev exceptions : List (List ℕ)
  exceptions = map bytes_of (between p.exceptions_start p.exceptions_end row)

  abbrev sources : ℕ → ℕ → List (List ℕ)
  sources start end = map bytes_of (between start end row)

  star_long : (b : Bool) → p.starred ≡ b → entries_of_star (star_of b exceptions) ≡ star_entries p
  star_long true is = rw is (omega (arith, length-map (between p.exceptions_start p.exceptions_end row) bytes_of, length-between p.exceptions_start p.exceptions_end row within.2 within.3))
  star_long false is = rw is refl

  pub piece_entries : entries_of_star (place_seen bytes_of row p).star + length (place_seen bytes_of row p).sources ≡ star_entries p + place_sources p
  piece_entries = omega (arith, star_long p.starred refl, length-map (between p.sources_start p.sources_end row) bytes_of, length-between p.sources_start p.sources_end row within.0 within.1)

  module _ (middle : ℕ) (low : p.sources_start ≤ middle) (high : middle ≤ p.sources_end) where
    cut_at : sources p.sources_start p.sources_end ≡ sources p.sources_start middle ++ sources middle p.sources_end
    cut_at = ap (map bytes_of) (meets p.sources_start middle p.sources_end row low high within.1) ∙ map-append bytes_of (between p.sources_start middle row) (between middle p.sources_end row)

    long_from : (start end : ℕ) → start < end → end ≤ length row → 0 < length (sources start end)
    long_from start end less inside = omega (arith, length-map (between start end row) bytes_of, length-between start end row (omega arith) inside)

    pub good_front : IsGood bytes_of family row p → (p.starred ≡ false → p.sources_start < middle) → IsGood bytes_of family row (front_piece middle p)
    good_front is some_one =
        let star = star_of p.starred exceptions in
        let whole : IsNormalGroup family (record { group = bytes_of p.group; star = star; sources = sources p.sources_start middle ++ sources middle p.sources_end }) =
        subst (λ (xs : List (List ℕ)). IsNormalGroup family (record { group = bytes_of p.group; star = star; sources = xs })) cut_at is in
        normal_front family (bytes_of p.group) star (sources p.sources_start middle) (sources middle p.sources_end) whole (by p.starred refl)
      where
        by : (b : Bool) → p.starred ≡ b → is_empty (star_of b exceptions) (sources p.sources_start middle) ≡ false
        by true same = refl
        by false same = empty_by None (sources p.sources_start middle) (long_from p.sources_start middle (some_one same) (omega (arith, within.1)))

    pub good_rest : IsGood bytes_of family row p → middle < p.sources_end → IsGood bytes_of family row (rest_piece middle p)
    good_rest is less =
        let star = star_of p.starred exceptions in
        let whole : IsNormalGroup family (record { group = bytes_of p.group; star = star; sources = sources p.sources_start middle ++ sources middle p.sources_end }) =
        subst (λ (xs : List (List ℕ)). IsNormalGroup family (record { group = bytes_of p.group; star = star; sources = xs })) cut_at is in
        normal_rest family (bytes_of p.group) star (sources p.sources_start middle) (sources middle p.sources_end) whole (empty_by None (sources middle p.sources_end) (long_from middle p.sources_end less within.1))

    pub units_cut : group_units (place_seen bytes_of row p) ≡ group_units (place_seen bytes_of row (front_piece middle p)) ++ group_units (place_seen bytes_of row (rest_piece middle p))
    units_cut =
        let star = star_of p.starred exceptions in
        ap (λ (xs : List (List ℕ)). group_units (record { group = bytes_of p.group; star = star; sources = xs })) cut_at
        ∙ cut_units (bytes_of p.group) star (sources p.sources_start middle) (sources middle p.sources_end)

-- ---- what is first of a group, alone

record FirstPiece {A : Type 0} (bytes_of : A → List ℕ) (family : AddressFamily) (row : List A) (p : GroupPlace A) : Type 0 where
  piece : GroupPlace A
  unit : WantUnit
  others : List WantUnit
  same : place_group bytes_of p ≡ place_group bytes_of piece
  within : IsWithin (length row) piece
  good : IsGood bytes_of family row piece
  alone : group_units (place_seen bytes_of row piece) ≡ unit ∷ []
  begins : group_units (place_seen bytes_of row p) ≡ unit ∷ others
  entries : star_entries piece + place_sources piece ≡ (if p.starred then star_entries p else 1)

module _ {A : Type 0} (bytes_of : A → List ℕ) (family : AddressFamily) (row : List A) (p : GroupPlace A) (within : IsWithin (length row) p) (good : IsGood bytes_of family row p) where
  none_between : (start : ℕ) → start ≤ length row → map bytes_of (between start start row) ≡ []
  none_between start inside = by (between start start row) (omega (arith, length-between start start row (omega arith) inside))
    where
      by : (xs : List A) → length xs ≡ 0 → map bytes_of xs ≡ []
      by [] none = refl
      by (x ∷ xs) none = absurd (omega arith)

  -- without a star there is a source
  pub some_sources : p.starred ≡ false → p.sources_start < p.sources_end
  some_sources is =
      let xs : List A = between p.sources_start p.sources_end row in
      let exceptions : List (List ℕ) = map bytes_of (between p.exceptions_start p.exceptions_end row) in
      let some_one : is_empty None (map bytes_of xs) ≡ false = subst (λ b. is_empty (star_of b exceptions) (map bytes_of xs) ≡ false) is good.some in
      omega (arith, length-map xs bytes_of, not_empty (map bytes_of xs) some_one, length-between p.sources_start p.sources_end row within.0 within.1)
    where
      not_empty : (xs : List (List ℕ)) → is_empty None xs ≡ false → 0 < length xs
      not_empty [] is = absurd (true≢false is)
      not_empty (x ∷ xs) is = omega arith

  first_piece : (b : Bool) → p.starred ≡ b → FirstPiece bytes_of family row p
  first_piece true is =
      let piece : GroupPlace A = front_piece p.sources_start p in
      let inside : IsWithin (length row) piece = (omega arith, omega (arith, within.0, within.1), within.2, within.3) in
      let exceptions : List (List ℕ) = map bytes_of (between p.exceptions_start p.exceptions_end row) in
      let x : List ℕ = bytes_of p.group in
      let seen : (xs : List (List ℕ)) → group_units (record { group = x; star = star_of p.starred exceptions; sources = xs }) ≡ star_unit x exceptions ∷ map (source_unit x) xs =
      λ xs. ap (λ b. group_units (record { group = x; star = star_of b exceptions; sources = xs })) is in
      record {
        piece = piece;
        unit = star_unit x exceptions;
        others = map (source_unit x) (map bytes_of (between p.sources_start p.sources_end row));
        same = refl;
        within = inside;
        good = good_front bytes_of family row p within p.sources_start (omega arith) within.0 good (λ none. absurd (true≢false (sym is ∙ none)));
        alone = seen (map bytes_of (between p.sources_start p.sources_start row))
            ∙ ap (λ (xs : List (List ℕ)). star_unit x exceptions ∷ map (source_unit x) xs) (none_between p.sources_start (omega (arith, within.0, within.1)));
        begins = seen (map bytes_of (between p.sources_start p.sources_end row));
        entries = rw is (omega arith);
      }
  first_piece false is =
      let xs : List A = between p.sources_start p.sources_end row in
      let x : List ℕ = bytes_of p.group in
      let exceptions : List (List ℕ) = map bytes_of (between p.exceptions_start p.exceptions_end row) in
      let less : p.sources_start < p.sources_end = some_sources is in
      let middle : ℕ = p.sources_start + 1 in
      let low : p.sources_start ≤ middle = omega arith in
      let high : middle ≤ p.sources_end = omega arith in
      let piece : GroupPlace A = front_piece middle p in
      let inside : IsWithin (length row) piece = (low, omega (arith, within.1), within.2, within.3) in
      let here : List A = between p.sources_start middle row in
      let one : length here ≡ 1 = omega (arith, length-between p.sources_start middle row low inside.1) in
      let first = first_of here (omega arith) in
      let is_here : here ≡ first.first ∷ [] = lone here first.first first.others first.is one in
      let behind : List (List ℕ) = map bytes_of (between middle p.sources_end row) in
      let seen : (xs : List (List ℕ)) → group_units (record { group = x; star = star_of p.starred exceptions; sources = xs }) ≡ map (source_unit x) xs =
      λ xs. ap (λ b. group_units (record { group = x; star = star_of b exceptions; sources = xs })) is in
      record {
        piece = piece;
        unit = source_unit x (bytes_of first.first);
        others = map (source_unit x) behind;
        same = refl;
        within = inside;
        good = good_front bytes_of family row p within middle low high good (λ none. omega arith);
        alone = seen (map bytes_of here) ∙ ap (λ (xs : List A). map (source_unit x) (map bytes_of xs)) is_here;
        begins = seen (map bytes_of xs) ∙ ap (map (source_unit x)) (cut_at bytes_of family row p within middle low high)
            ∙ ap (λ (xs : List A). map (source_unit x) (map bytes_of xs ++ behind)) is_here;
        entries = rw is (omega arith);
      }

-- ---- the next group

star_of_fits : (family : AddressFamily) (budget : ℕ) (this : GroupForm) (form : List GroupForm) → too_big family budget (this ∷ form) ≡ None
    → (star_fits family budget this.group this.star ≡ true) × (too_big family budget form ≡ None)
star_of_fits family budget this form none = by (star_fits family budget this.group this.star) (too_big family budget form) none
  where
    by : (b : Bool) (x : Option (List ℕ)) → (if b then x else Some this.group) ≡ None → (b ≡ true) × (x ≡ None)
    by true x none = (refl, none)
    by false x none = absurd cc

star_room : (family : AddressFamily) (budget count : ℕ) (group : List ℕ) (star : Option (List (List ℕ))) → is_some star ≡ true → count ≡ length (exceptions_of star)
    → star_fits family budget group star ≡ true → HasRoom family budget 1 (1 + count)
star_room family budget count group star starred counted fit =
    let size : ℕ = empty_message_size family + 1 * empty_set_size family + (1 + count) * entry_size family in
    let test = star_fits_by family budget size count group star starred counted refl in
    (leb-true size budget (test ∙ fit), omega arith)

source_room : (family : AddressFamily) (budget : ℕ) → 70 ≤ budget → HasRoom family budget 1 1
source_room Ipv4 budget least = (omega arith, omega arith)
source_room Ipv6 budget least = (omega arith, omega arith)

abbrev pub first_entries : {A : Type 0} → GroupPlace A → ℕ
first_entries p = if p.starred then star_entries p else 1

module _ {A : Type 0} (bytes_of : A → List ℕ) (family : AddressFamily) (budget : ℕ) (row : List A) (places : List (GroupPlace A)) (p : GroupPlace A) (left : List (GroupPlace A)) (filled : Filled A)
    (f : IsFilling bytes_of family budget row places (p ∷ left) filled) where
  next_holds : Holds bytes_of family row (p ∷ left)
  next_holds = holds_behind bytes_of family row f.begun (p ∷ left) (holds bytes_of family row (f.begun ++ p ∷ left) f.kept)

  pub next_within : IsWithin (length row) p
  next_within = next_holds.within.0

  pub next_good : IsGood bytes_of family row p
  next_good = next_holds.good.0

  -- the first unit of a group fits a message alone
  pub first_fits : HasRoom family budget 1 (first_entries p)
  first_fits = by p.starred refl
    where
      by : (b : Bool) → p.starred ≡ b → HasRoom family budget 1 (if b then star_entries p else 1)
      by true is =
          let xs : List A = between p.exceptions_start p.exceptions_end row in
          let star = star_of p.starred (map bytes_of xs) in
          let starred : is_some star ≡ true = ap (λ b. is_some (star_of b (map bytes_of xs))) is in
          let count : p.exceptions_end - p.exceptions_start ≡ length (exceptions_of star) =
          sym (length-between p.exceptions_start p.exceptions_end row next_within.2 next_within.3) ∙ sym (length-map xs bytes_of)
          ∙ sym (ap (λ b. length (exceptions_of (star_of b (map bytes_of xs)))) is) in
          let room = star_room family budget (p.exceptions_end - p.exceptions_start) (bytes_of p.group) star starred count (star_of_fits family budget (place_seen bytes_of row p) (form_seen bytes_of row left) f.fits).0 in
          let long : 1 + (p.exceptions_end - p.exceptions_start) ≡ star_entries p = rw is refl in
          subst (λ n. HasRoom family budget 1 n) long room
      by false is = source_room family budget f.least

  with_last : (q : GroupPlace A) → place_group bytes_of p ≡ place_group bytes_of q → IsWithin (length row) q → IsGood bytes_of family row q → IsKept bytes_of family row (f.begun ++ q ∷ [])
  with_last q same within good =
      let all = holds_with bytes_of family row f.begun left p q (holds bytes_of family row (f.begun ++ p ∷ left) f.kept) same within good in
      let one : (f.begun ++ q ∷ []) ++ left ≡ f.begun ++ q ∷ left = append_assoc f.begun (q ∷ []) left in
      kept bytes_of family row (f.begun ++ q ∷ [])
      (holds_front bytes_of family row (f.begun ++ q ∷ []) left (subst (Holds bytes_of family row) (sym one) all))

  module _ (q : GroupPlace A) (within : IsWithin (length row) q) where
    more_groups : filled.groups + 1 ≡ length (form_seen bytes_of row (f.begun ++ q ∷ []))
    more_groups = omega (arith, f.groups, places_count bytes_of row (f.begun ++ q ∷ []), length-append f.begun (q ∷ []))

    more_entries : filled.entries + (star_entries q + place_sources q) ≡ run_entries (run_of bytes_of row (f.begun ++ q ∷ []))
    more_entries =
        let units = ap (λ (form : List GroupForm). run_entries (units_of form)) (map-append (place_seen bytes_of row) f.begun (q ∷ [])) in
        let more = entries_more (form_seen bytes_of row f.begun) (place_seen bytes_of row q) in
        let here = piece_entries bytes_of family row q within in
        let before = f.entries in
        omega arith

    room_of : HasRoom family budget (filled.groups + 1) (filled.entries + (star_entries q + place_sources q))
        → HasRoom family budget (length (form_seen bytes_of row (f.begun ++ q ∷ []))) (run_entries (run_of bytes_of row (f.begun ++ q ∷ [])))
    room_of room =
        subst (λ n. HasRoom family budget n (run_entries (run_of bytes_of row (f.begun ++ q ∷ [])))) more_groups
        (subst (λ n. HasRoom family budget (filled.groups + 1) n) more_entries room)

    room_back : HasRoom family budget (length (form_seen bytes_of row (f.begun ++ q ∷ []))) (run_entries (run_of bytes_of row (f.begun ++ q ∷ [])))
        → HasRoom family budget (filled.groups + 1) (filled.entries + (star_entries q + place_sources q))
    room_back room =
        subst (λ n. HasRoom family budget n (filled.entries + (star_entries q + place_sources q))) (sym more_groups)
        (subst (λ n. HasRoom family budget (length (form_seen bytes_of row (f.begun ++ q ∷ []))) n) (sym more_entries) room)

    piece_fits : IsKept bytes_of family row (f.begun ++ q ∷ []) → HasRoom family budget (filled.groups + 1) (filled.entries + (star_entries q + place_sources q))
        → fits family budget (run_of bytes_of row (f.begun ++ q ∷ [])) ≡ true
    piece_fits is room =
        fits_by family budget (form_seen bytes_of row (f.begun ++ q ∷ [])) is.normal.ascending (some bytes_of family budget row (f.begun ++ q ∷ []) is) (room_of room)

    piece_full : IsKept bytes_of family row (f.begun ++ q ∷ []) → (HasRoom family budget (filled.groups + 1) (filled.entries + (star_entries q + place_sources q)) → ⊥)
        → fits family budget (run_of bytes_of row (f.begun ++ q ∷ [])) ≡ false
    piece_full is full =
        fits_not family budget (form_seen bytes_of row (f.begun ++ q ∷ [])) is.normal.ascending (some bytes_of family budget row (f.begun ++ q ∷ []) is) (λ room. full (room_back room))

  -- the group is told whole in the open message
  pub goes_on : HasRoom family budget (filled.groups + 1) (filled.entries + (star_entries p + place_sources p))
      → IsFilling bytes_of family budget row places left
      (record { pieces = filled.pieces ++ p ∷ []; ends = filled.ends; groups = filled.groups + 1; entries = filled.entries + (star_entries p + place_sources p) })
  goes_on room =
      let one : (f.begun ++ p ∷ []) ++ left ≡ f.begun ++ p ∷ left = append_assoc f.begun (p ∷ []) left in
      record {
        closed = f.closed;
        begun = f.begun ++ p ∷ [];
        pieces = ap (λ (xs : List (GroupPlace A)). xs ++ p ∷ []) f.pieces ∙ append_assoc (flat_map (λ part. part) f.closed) f.begun (p ∷ []);
        ends = f.ends;
        groups = omega (arith, f.groups, length-append f.begun (p ∷ []));
        entries = more_entries p next_within;
        room = room;
        done = f.done;
        kept = subst (IsKept bytes_of family row) (sym one) f.kept;
        packs = λ runs packing. f.packs runs (subst (λ (xs : List (GroupPlace A)). IsPacking family budget (run_of bytes_of row xs) runs) one packing);
        fits = (star_of_fits family budget (place_seen bytes_of row p) (form_seen bytes_of row left) f.fits).1;
        least = f.least;
      }

  some_begun : (HasRoom family budget (filled.groups + 1) (filled.entries + first_entries p) → ⊥) → 0 < length f.begun
  some_begun full = by f.begun f.groups f.entries
    where
      by : (begun : List (GroupPlace A)) → filled.groups ≡ length begun → filled.entries ≡ run_entries (run_of bytes_of row begun) → 0 < length begun
      by [] groups entries =
          let count : filled.entries ≡ 0 = entries ∙ no_entries in
          let none : filled.groups ≡ 0 = groups in
          absurd (full (rw (none, count) (subst (λ n. HasRoom family budget 1 n) (zero_more (first_entries p)) first_fits)))
        where
          zero_more : (n : ℕ) → n ≡ 0 + n
          zero_more n = omega arith
      by (x ∷ begun) groups entries = omega arith

  -- nothing of the group fits: the open message is closed
  pub closes_before : (HasRoom family budget (filled.groups + 1) (filled.entries + first_entries p) → ⊥)
      → IsFilling bytes_of family budget row places (p ∷ left) (record { pieces = filled.pieces; ends = filled.ends ++ length filled.pieces ∷ []; groups = 0; entries = 0 })
  closes_before full =
      let first = first_piece bytes_of family row p next_within next_good p.starred refl in
      let q = first.piece in
      let is = with_last q first.same first.within first.good in
      let begun = kept_begun bytes_of family budget row places (p ∷ left) filled f in
      let stop : fits family budget (run_of bytes_of row (f.begun ++ q ∷ [])) ≡ false =
      piece_full q first.within is (λ room. full (subst (λ n. HasRoom family budget (filled.groups + 1) (filled.entries + n)) first.entries room)) in
      let longer : run_of bytes_of row (f.begun ++ q ∷ []) ≡ run_of bytes_of row f.begun ++ first.unit ∷ [] =
      run_append bytes_of family budget row f.begun (q ∷ [])
      ∙ ap (λ (us : List WantUnit). run_of bytes_of row f.begun ++ us) (append-nil (group_units (place_seen bytes_of row q)) ∙ first.alone) in
      let next : run_of bytes_of row (p ∷ left) ≡ first.unit ∷ (first.others ++ run_of bytes_of row left) = ap (λ (us : List WantUnit). us ++ run_of bytes_of row left) first.begins in
      let stops : StopsBefore family budget (run_of bytes_of row f.begun) (first.unit ∷ (first.others ++ run_of bytes_of row left)) =
      subst (λ (us : List WantUnit). fits family budget us ≡ false) longer stop in
      closes bytes_of family budget row places (p ∷ left) filled f filled.pieces f.begun (p ∷ left)
      (nonempty bytes_of family budget row f.begun (some_begun full) (some bytes_of family budget row f.begun begun)) begun
      (kept bytes_of family row (p ∷ left) next_holds)
      (run_append bytes_of family budget row f.begun (p ∷ left)) (fits_begun bytes_of family budget row places (p ∷ left) filled f)
      (subst (StopsBefore family budget (run_of bytes_of row f.begun)) (sym next) stops) f.fits f.pieces

  module _ (middle : ℕ) (low : p.sources_start ≤ middle) (less : middle < p.sources_end) (some_one : p.starred ≡ false → p.sources_start < middle) where
    high : middle ≤ p.sources_end
    high = omega arith

    rest_seen : (first : A) (others : List A) → between middle p.sources_end row ≡ first ∷ others
        → group_units (place_seen bytes_of row (rest_piece middle p)) ≡ source_unit (bytes_of p.group) (bytes_of first) ∷ map (source_unit (bytes_of p.group)) (map bytes_of others)
    rest_seen first others is = ap (λ (xs : List A). map (source_unit (bytes_of p.group)) (map bytes_of xs)) is

    -- the front of one source more
    longer_units : (first : A) → between middle (middle + 1) row ≡ first ∷ []
        → group_units (place_seen bytes_of row (front_piece (middle + 1) p))
        ≡ group_units (place_seen bytes_of row (front_piece middle p)) ++ source_unit (bytes_of p.group) (bytes_of first) ∷ []
    longer_units first is =
        let q : GroupPlace A = front_piece (middle + 1) p in
        let inside : IsWithin (length row) q = (omega arith, omega (arith, next_within.1), next_within.2, next_within.3) in
        units_cut bytes_of family row q inside middle low (omega arith)
        ∙ ap (λ (xs : List A). group_units (place_seen bytes_of row (front_piece middle p)) ++ map (source_unit (bytes_of p.group)) (map bytes_of xs)) is

    -- as much of the group as fits is told in the open message, and others follow
    pub closes_within : HasRoom family budget (filled.groups + 1) (filled.entries + (star_entries p + (middle - p.sources_start)))
        → (HasRoom family budget (filled.groups + 1) (filled.entries + (star_entries p + (middle - p.sources_start) + 1)) → ⊥)
        → IsFilling bytes_of family budget row places (rest_piece middle p ∷ left)
        (record { pieces = filled.pieces ++ front_piece middle p ∷ []; ends = filled.ends ++ length (filled.pieces ++ front_piece middle p ∷ []) ∷ []; groups = 0; entries = 0 })
    closes_within room full =
        let front : GroupPlace A = front_piece middle p in
        let rest : GroupPlace A = rest_piece middle p in
        let longer : GroupPlace A = front_piece (middle + 1) p in
        let in_front : IsWithin (length row) front = (low, omega (arith, next_within.1), next_within.2, next_within.3) in
        let in_longer : IsWithin (length row) longer = (omega arith, omega (arith, next_within.1), next_within.2, next_within.3) in
        let in_rest : IsWithin (length row) rest = (high, next_within.1, omega arith, omega (arith, next_within.2, next_within.3)) in
        let is_front = with_last front refl in_front (good_front bytes_of family row p next_within middle low high next_good some_one) in
        let is_longer = with_last longer refl in_longer
        (good_front bytes_of family row p next_within (middle + 1) (omega arith) (omega arith) next_good (λ none. omega arith)) in
        let is_rest = holds_with bytes_of family row [] left p rest next_holds refl in_rest (good_rest bytes_of family row p next_within middle low high next_good less) in
        let rests : List A = between middle p.sources_end row in
        let one : List A = between middle (middle + 1) row in
        let single : length one ≡ 1 = omega (arith, length-between middle (middle + 1) row (omega arith) (omega (arith, next_within.1))) in
        let first = first_of one (omega arith) in
        let is_one : one ≡ first.first ∷ [] = lone one first.first first.others first.is single in
        let others : List A = between (middle + 1) p.sources_end row in
        let is_rests : rests ≡ first.first ∷ others =
        meets middle (middle + 1) p.sources_end row (omega arith) (omega arith) next_within.1 ∙ ap (λ (xs : List A). xs ++ others) is_one in
        let u : WantUnit = source_unit (bytes_of p.group) (bytes_of first.first) in
        let before : List WantUnit = run_of bytes_of row f.begun in
        let units_front : List WantUnit = group_units (place_seen bytes_of row front) in
        let units_rest : List WantUnit = group_units (place_seen bytes_of row rest) in
        let units_left : List WantUnit = run_of bytes_of row left in
        let fronts : run_of bytes_of row (f.begun ++ front ∷ []) ≡ before ++ units_front =
        run_append bytes_of family budget row f.begun (front ∷ []) ∙ ap (λ (us : List WantUnit). before ++ us) (append-nil units_front) in
        let longers : run_of bytes_of row (f.begun ++ longer ∷ []) ≡ run_of bytes_of row (f.begun ++ front ∷ []) ++ u ∷ [] =
        run_append bytes_of family budget row f.begun (longer ∷ [])
        ∙ ap (λ (us : List WantUnit). before ++ us) (append-nil (group_units (place_seen bytes_of row longer)) ∙ longer_units first.first is_one)
        ∙ sym (append_assoc before units_front (u ∷ []))
        ∙ ap (λ (us : List WantUnit). us ++ u ∷ []) (sym fronts) in
        let whole : run_of bytes_of row (f.begun ++ p ∷ left) ≡ run_of bytes_of row (f.begun ++ front ∷ []) ++ run_of bytes_of row (rest ∷ left) =
        run_append bytes_of family budget row f.begun (p ∷ left)
        ∙ ap (λ (us : List WantUnit). before ++ (us ++ units_left)) (units_cut bytes_of family row p next_within middle low high)
        ∙ regroup before units_front units_rest units_left
        ∙ ap (λ (us : List WantUnit). us ++ (units_rest ++ units_left)) (sym fronts) in
        let next : run_of bytes_of row (rest ∷ left) ≡ u ∷ (map (source_unit (bytes_of p.group)) (map bytes_of others) ++ units_left) =
        ap (λ (us : List WantUnit). us ++ units_left) (rest_seen first.first others is_rests) in
        let fit_front = piece_fits front in_front is_front
        (subst (λ n. HasRoom family budget (filled.groups + 1) n) (omega arith) room) in
        let stop = piece_full longer in_longer is_longer
        (λ more. full (subst (λ n. HasRoom family budget (filled.groups + 1) n) (omega arith) more)) in
        let stops : StopsBefore family budget (run_of bytes_of row (f.begun ++ front ∷ [])) (u ∷ (map (source_unit (bytes_of p.group)) (map bytes_of others) ++ units_left)) =
        subst (λ (us : List WantUnit). fits family budget us ≡ false) longers stop in
        let long : 0 < length (f.begun ++ front ∷ []) = omega (arith, length-append f.begun (front ∷ [])) in
        closes bytes_of family budget row places (p ∷ left) filled f (filled.pieces ++ front ∷ []) (f.begun ++ front ∷ []) (rest ∷ left)
        (nonempty bytes_of family budget row (f.begun ++ front ∷ []) long (some bytes_of family budget row (f.begun ++ front ∷ []) is_front)) is_front
        (kept bytes_of family row (rest ∷ left) is_rest) whole fit_front
        (subst (StopsBefore family budget (run_of bytes_of row (f.begun ++ front ∷ []))) (sym next) stops)
        (star_of_fits family budget (place_seen bytes_of row p) (form_seen bytes_of row left) f.fits).1
        (ap (λ (xs : List (GroupPlace A)). xs ++ front ∷ []) f.pieces ∙ append_assoc (flat_map (λ part. part) f.closed) f.begun (front ∷ []))
      where
        regroup : (a b c d : List WantUnit) → a ++ ((b ++ c) ++ d) ≡ (a ++ b) ++ (c ++ d)
        regroup a b c d = simp append_assoc

-- ---- by numbers

pub few_entries : (family : AddressFamily) (budget groups entries : ℕ) → HasRoom family budget groups entries → budget ≤ 65000 → entries ≤ 65000
few_entries Ipv4 budget groups entries room most = omega (arith, room.0)
few_entries Ipv6 budget groups entries room most = omega (arith, room.0)

module _ {A : Type 0} (bytes_of : A → List ℕ) (family : AddressFamily) (budget : ℕ) (row : List A) (places : List (GroupPlace A)) (p : GroupPlace A) (left : List (GroupPlace A)) (filled : Filled A)
    (f : IsFilling bytes_of family budget row places (p ∷ left) filled) where
  pub few_exceptions : budget ≤ 65000 → p.starred ≡ true → p.exceptions_end < p.exceptions_start + 65000
  few_exceptions most is =
      let room : HasRoom family budget 1 (first_entries p) = first_fits bytes_of family budget row places p left filled f in
      let entries : first_entries p ≡ 1 + (p.exceptions_end - p.exceptions_start) = rw is refl in
      omega (arith, few_entries family budget 1 (first_entries p) room most, entries)

  some_units : (b : Bool) → p.starred ≡ b → 1 ≤ star_entries p + place_sources p
  some_units true is = rw is (omega arith)
  some_units false is = omega (arith, some_sources bytes_of family row p (next_within bytes_of family budget row places p left filled f) (next_good bytes_of family budget row places p left filled f) is)

  module _ (room star : ℕ) (fit : (count : ℕ) → 1 ≤ count → (count ≤ room) ↔ HasRoom family budget (filled.groups + 1) (filled.entries + count)) (counted : star ≡ star_entries p) where
    first_least : 1 ≤ first_entries p
    first_least = by p.starred refl
      where
        by : (b : Bool) → p.starred ≡ b → 1 ≤ (if b then star_entries p else 1)
        by true is = rw is (omega arith)
        by false is = omega arith

    pub less_of_none : room ≡ 0 → room < first_entries p
    less_of_none none = omega (arith, first_least)

    pub less_of_star : room < star → room < first_entries p
    less_of_star less = by p.starred refl
      where
        by : (b : Bool) → p.starred ≡ b → room < (if b then star_entries p else 1)
        by true is = omega arith
        by false is =
            let none : star_entries p ≡ 0 = rw is refl in
            omega arith

    none_fits : room < first_entries p → HasRoom family budget (filled.groups + 1) (filled.entries + first_entries p) → ⊥
    none_fits less has = omega (arith, (fit (first_entries p) first_least).1 has)

    pub closed_before : room < first_entries p
        → IsFilling bytes_of family budget row places (p ∷ left) (record { pieces = filled.pieces; ends = filled.ends ++ length filled.pieces ∷ []; groups = 0; entries = 0 })
    closed_before less = closes_before bytes_of family budget row places p left filled f (none_fits less)

    pub groups_before : room < first_entries p → 0 < filled.groups
    groups_before less = omega (arith, f.groups, some_begun bytes_of family budget row places p left filled f (none_fits less))

    pub fewer_sources : 1 ≤ room → star ≤ room → (HasRoom family budget (filled.groups + 1) (filled.entries + (star_entries p + place_sources p)) → ⊥) → p.sources_start + (room - star) < p.sources_end
    fewer_sources least enough long =
        ⊎_elim
        (λ (less : room < star_entries p + place_sources p). omega arith)
        (λ (whole : star_entries p + place_sources p ≤ room). absurd (long ((fit (star_entries p + place_sources p) (some_units p.starred refl)).0 whole)))
        (cases_lt room (star_entries p + place_sources p))

    pub closed_within : 1 ≤ room → star ≤ room → (HasRoom family budget (filled.groups + 1) (filled.entries + (star_entries p + place_sources p)) → ⊥)
        → IsFilling bytes_of family budget row places (rest_piece (p.sources_start + (room - star)) p ∷ left)
        (record {
          pieces = filled.pieces ++ front_piece (p.sources_start + (room - star)) p ∷ [];
          ends = filled.ends ++ length (filled.pieces ++ front_piece (p.sources_start + (room - star)) p ∷ []) ∷ [];
          groups = 0;
          entries = 0;
        })
    closed_within least enough long =
        let middle : ℕ = p.sources_start + (room - star) in
        let whole : star_entries p + (middle - p.sources_start) ≡ room = omega arith in
        closes_within bytes_of family budget row places p left filled f middle (omega arith) (fewer_sources least enough long)
        (λ none. omega (arith, no_star none))
        (subst (λ n. HasRoom family budget (filled.groups + 1) (filled.entries + n)) (sym whole) ((fit room least).0 (omega arith)))
        (λ more. omega (arith, (fit (room + 1) (omega arith)).1 (subst (λ n. HasRoom family budget (filled.groups + 1) (filled.entries + (n + 1))) whole more)))
      where
        no_star : p.starred ≡ false → star_entries p ≡ 0
        no_star none = rw none refl

module _ {A : Type 0} (bytes_of : A → List ℕ) (family : AddressFamily) (budget : ℕ) where
  -- what was put in place of a group is the next piece
  pub goes_next : (before p : GroupPlace A) (first filled : Filled A) → IsNext bytes_of family budget before first
      → ((row : List A) (places left : List (GroupPlace A)) → IsFilling bytes_of family budget row places (before ∷ left) first → IsFilling bytes_of family budget row places (p ∷ left) filled)
      → IsNext bytes_of family budget p filled
  goes_next before p first filled next goes = record {
    row = next.row;
    places = next.places;
    left = next.left;
    filling = goes next.row next.places next.left next.filling;
  }

  module _ (p : GroupPlace A) (filled : Filled A) (next : IsNext bytes_of family budget p filled) where
    pub within_of : (p.sources_start ≤ p.sources_end) × (p.exceptions_start ≤ p.exceptions_end)
    within_of = let within = next_within bytes_of family budget next.row next.places p next.left filled next.filling in (within.0, within.2)

    pub few_of : budget ≤ 65000 → p.starred ≡ true → p.exceptions_end < p.exceptions_start + 65000
    few_of = few_exceptions bytes_of family budget next.row next.places p next.left filled next.filling

    -- all of it fits
    pub room_behind : (room : ℕ) → ((count : ℕ) → 1 ≤ count → (count ≤ room) ↔ HasRoom family budget (filled.groups + 1) (filled.entries + count))
        → star_entries p + place_sources p ≤ room → HasRoom family budget (filled.groups + 1) (filled.entries + (star_entries p + place_sources p))
    room_behind room fit whole = (fit (star_entries p + place_sources p) (some_units bytes_of family budget next.row next.places p next.left filled next.filling p.starred refl)).0 whole

    pub no_room_behind : (room : ℕ) → ((count : ℕ) → 1 ≤ count → (count ≤ room) ↔ HasRoom family budget (filled.groups + 1) (filled.entries + count))
        → (star_entries p + place_sources p ≤ room → ⊥) → HasRoom family budget (filled.groups + 1) (filled.entries + (star_entries p + place_sources p)) → ⊥
    no_room_behind room fit long has =
        long ((fit (star_entries p + place_sources p) (some_units bytes_of family budget next.row next.places p next.left filled next.filling p.starred refl)).1 has)

  -- what is left of a group is told whole
  pub carries : (before p : GroupPlace A) (first filled new : Filled A)
      → ((row : List A) (places left : List (GroupPlace A)) → IsFilling bytes_of family budget row places (before ∷ left) first → IsFilling bytes_of family budget row places (p ∷ left) filled)
      → HasRoom family budget (filled.groups + 1) (filled.entries + (star_entries p + place_sources p))
      → new ≡ record { pieces = filled.pieces ++ p ∷ []; ends = filled.ends; groups = filled.groups + 1; entries = filled.entries + (star_entries p + place_sources p) }
      → (row : List A) (places left : List (GroupPlace A)) → IsFilling bytes_of family budget row places (before ∷ left) first → IsFilling bytes_of family budget row places left new
  carries before p first filled new goes room is row places left filling =
      subst (IsFilling bytes_of family budget row places left) (sym is) (goes_on bytes_of family budget row places p left filled (goes row places left filling) room)
