-- What of a list in ascending order is above a bound, and what comes first there.
use Rattle.pim_emit.proofs.Words.{◌≡◌, ◌∙◌, ℕ, Bool, true, false, List, [], ◌∷◌, Option, None, Some, map, cond, refl}
use Rattle.pim_emit.proofs.Words.{sym, ap, subst, Less, AllByRecursion, filter, find, IsStrictlySortedBy, is_lt}
use Rattle.pim_emit.proofs.Words.{false≢true, is_above, address_cmp, GroupForm, AreAscending, groups_of, same_address}
use Rattle.pim_emit.proofs.Words.{group_in, above, next_above, groups_above}
use Rattle.std.specs.Prelude.{option_map}
use Rattle.pim_emit.proofs.Addresses.{same_itself, same_is, less_apart, not_above_itself, not_above_greater, above_less}

-- ---- the first that passes, and all that do

module _ {A : Type 0} (test : A → Bool) (x : A) (xs : List A) where
  pub found_here : (a : A) → test x ≡ true → find test (x ∷ xs) ≡ Some a → x ≡ a
  found_here a e found =
      let same : Some x ≡ Some a = subst (λ b. cond b (Some x) (find test xs) ≡ Some a) e found in
      cc

  pub found_later : (r : Option A) → test x ≡ false → find test (x ∷ xs) ≡ r → find test xs ≡ r
  found_later r e found = subst (λ b. cond b (Some x) (find test xs) ≡ r) e found

  pub some_found : test x ≡ true → find test (x ∷ xs) ≡ None → ⊥
  some_found e none =
      let clash : Some x ≡ None = subst (λ b. cond b (Some x) (find test xs) ≡ None) e none in
      cc

  pub kept_here : test x ≡ true → filter test (x ∷ xs) ≡ x ∷ filter test xs
  kept_here e = rw e refl

  pub dropped_here : test x ≡ false → filter test (x ∷ xs) ≡ filter test xs
  dropped_here e = rw e refl

-- either way of a test
pub by_test : {P : Type 0} (b : Bool) → (b ≡ true → P) → (b ≡ false → P) → P
by_test true here later = here refl
by_test false here later = later refl

-- ---- by addresses

module _ {A : Type 0} (address_of : A → List ℕ) where
  abbrev pub is_over : Option (List ℕ) → A → Bool
  is_over bound a = is_above bound (address_of a)

  -- all of these are above the address
  abbrev AreBehind : List ℕ → List A → Type 0
  AreBehind address xs = AllByRecursion (λ other. address_cmp address other ≡ Less) (map address_of xs)

  all_over : (bound : Option (List ℕ)) (address : List ℕ) (xs : List A) → is_above bound address ≡ true → AreBehind address xs → filter (is_over bound) xs ≡ xs
  all_over bound address [] over behind = refl
  all_over bound address (x ∷ xs) over behind =
      kept_here (is_over bound) x xs (above_less bound address (address_of x) over behind.0) ∙ ap (λ l. x ∷ l) (all_over bound address xs over behind.1)

  all_over_itself : (address : List ℕ) (xs : List A) → AreBehind address xs → filter (is_over (Some address)) xs ≡ xs
  all_over_itself address [] behind = refl
  all_over_itself address (x ∷ xs) behind = kept_here (is_over (Some address)) x xs (ap is_lt behind.0) ∙ ap (λ l. x ∷ l) (all_over_itself address xs behind.1)

  pub found_holds : (P : A → Type 0) (bound : Option (List ℕ)) (xs : List A) (a : A) → AllByRecursion P xs → find (is_over bound) xs ≡ Some a → P a
  found_holds P bound [] a all found = absurd cc
  found_holds P bound (x ∷ xs) a all found =
      by_test (is_over bound x)
      (λ e. subst P (found_here (is_over bound) x xs a e found) all.0)
      (λ e. found_holds P bound xs a all.1 (found_later (is_over bound) x xs (Some a) e found))

  found_behind : (bound : Option (List ℕ)) (address : List ℕ) (xs : List A) (a : A) → AreBehind address xs → find (is_over bound) xs ≡ Some a → address_cmp address (address_of a) ≡ Less
  found_behind bound address [] a behind found = absurd cc
  found_behind bound address (x ∷ xs) a behind found =
      by_test (is_over bound x)
      (λ e. subst (λ y. address_cmp address (address_of y) ≡ Less) (found_here (is_over bound) x xs a e found) behind.0)
      (λ e. found_behind bound address xs a behind.1 (found_later (is_over bound) x xs (Some a) e found))

  pub over_none : (bound : Option (List ℕ)) (xs : List A) → find (is_over bound) xs ≡ None → filter (is_over bound) xs ≡ []
  over_none bound [] none = refl
  over_none bound (x ∷ xs) none =
      by_test (is_over bound x)
      (λ e. absurd (some_found (is_over bound) x xs e none))
      (λ e. dropped_here (is_over bound) x xs e ∙ over_none bound xs (found_later (is_over bound) x xs None e none))

  pub over_first : (bound : Option (List ℕ)) (xs : List A) (a : A) → AreAscending (map address_of xs) → find (is_over bound) xs ≡ Some a
      → filter (is_over bound) xs ≡ a ∷ filter (is_over (Some (address_of a))) xs
  unfolding IsStrictlySortedBy
  over_first bound [] a up found = absurd cc
  over_first bound (x ∷ xs) a up found =
      by_test (is_over bound x)
      (λ e.
      let here : x ≡ a = found_here (is_over bound) x xs a e found in
      let behind : filter (is_over (Some (address_of x))) (x ∷ xs) ≡ xs =
      dropped_here (is_over (Some (address_of x))) x xs (not_above_itself (address_of x)) ∙ all_over_itself (address_of x) xs up.0 in
      kept_here (is_over bound) x xs e ∙ ap (λ l. x ∷ l) (all_over bound (address_of x) xs e up.0 ∙ sym behind)
      ∙ ap (λ y. y ∷ filter (is_over (Some (address_of y))) (x ∷ xs)) here)
      (λ e.
      let later = found_later (is_over bound) x xs (Some a) e found in
      let less = found_behind bound (address_of x) xs a up.0 later in
      dropped_here (is_over bound) x xs e ∙ over_first bound xs a up.1 later
      ∙ ap (λ l. a ∷ l) (sym (dropped_here (is_over (Some (address_of a))) x xs (not_above_greater (address_of x) (address_of a) less))))

  pub found_over : (bound : Option (List ℕ)) (xs : List A) (a : A) → find (is_over bound) xs ≡ Some a → is_above bound (address_of a) ≡ true
  found_over bound [] a found = absurd cc
  found_over bound (x ∷ xs) a found =
      by_test (is_over bound x)
      (λ e. subst (λ y. is_over bound y ≡ true) (found_here (is_over bound) x xs a e found) e)
      (λ e. found_over bound xs a (found_later (is_over bound) x xs (Some a) e found))

  pub find_mapped : (bound : Option (List ℕ)) (xs : List A) → next_above bound (map address_of xs) ≡ option_map address_of (find (is_over bound) xs)
  find_mapped bound [] = refl
  find_mapped bound (x ∷ xs) =
      by_test (is_over bound x)
      (λ e. rw e refl)
      (λ e. rw e (find_mapped bound xs))

-- ---- addresses

abbrev plain : List ℕ → List ℕ
plain address = address

map_plain : (xs : List (List ℕ)) → map plain xs ≡ xs
map_plain [] = refl
map_plain (x ∷ xs) = ap (λ l. x ∷ l) (map_plain xs)

pub above_none : (bound : Option (List ℕ)) (xs : List (List ℕ)) → next_above bound xs ≡ None → above bound xs ≡ []
above_none bound xs none = over_none plain bound xs none

pub above_first : (bound : Option (List ℕ)) (xs : List (List ℕ)) (a : List ℕ) → AreAscending xs → next_above bound xs ≡ Some a → above bound xs ≡ a ∷ above (Some a) xs
above_first bound xs a up found = over_first plain bound xs a (subst AreAscending (sym (map_plain xs)) up) found

-- ---- groups of a form

abbrev group_of : GroupForm → List ℕ
group_of this = this.group

apart_back : (a b : List ℕ) → address_cmp a b ≡ Less → same_address b a ≡ false
apart_back a b less =
    by_test (same_address b a)
    (λ e. absurd (false≢true (sym (less_apart a b less) ∙ subst (λ (c : List ℕ). same_address a c ≡ true) (sym (same_is b a e)) (same_itself a))))
    (λ e. e)

found_is_group : (bound : Option (List ℕ)) (form : List GroupForm) (this : GroupForm) → AreAscending (groups_of form) → find (is_over group_of bound) form ≡ Some this
    → group_in this.group form ≡ this
unfolding group_in IsStrictlySortedBy
found_is_group bound [] this up found = absurd cc
found_is_group bound (x ∷ form) this up found =
    by_test (is_over group_of bound x)
    (λ e. subst (λ (y : GroupForm). cond (same_address y.group x.group) x (group_in y.group form) ≡ y) (found_here (is_over group_of bound) x form this e found) (rw (same_itself x.group) refl))
    (λ e.
    let later = found_later (is_over group_of bound) x form (Some this) e found in
    let less = found_behind group_of bound x.group form this up.0 later in
    rw (apart_back x.group this.group less) (found_is_group bound form this up.1 later))

-- a group of the form that is the next above a bound
pub record IsNextGroup (bound : Option (List ℕ)) (form : List GroupForm) (group : List ℕ) : Type 0 where
  pub over : is_above bound group ≡ true
  pub named : (group_in group form).group ≡ group
  pub first : groups_above bound form ≡ group_in group form ∷ groups_above (Some group) form

pub no_next_group : (bound : Option (List ℕ)) (form : List GroupForm) → next_above bound (groups_of form) ≡ None → groups_above bound form ≡ []
no_next_group bound form none = by (find (is_over group_of bound) form) refl
  where
    by : (r : Option GroupForm) → find (is_over group_of bound) form ≡ r → groups_above bound form ≡ []
    by None e = over_none group_of bound form e
    by (Some this) e = absurd (let clash : None ≡ Some this.group = sym none ∙ find_mapped group_of bound form ∙ ap (option_map group_of) e in cc)

pub next_group : (bound : Option (List ℕ)) (form : List GroupForm) (group : List ℕ) → AreAscending (groups_of form) → next_above bound (groups_of form) ≡ Some group → IsNextGroup bound form group
next_group bound form group up found = by (find (is_over group_of bound) form) refl
  where
    by : (r : Option GroupForm) → find (is_over group_of bound) form ≡ r → IsNextGroup bound form group
    by None e = absurd (let clash : Some group ≡ None = sym found ∙ find_mapped group_of bound form ∙ ap (option_map group_of) e in cc)
    by (Some this) e =
        let both : Some group ≡ Some this.group = sym found ∙ find_mapped group_of bound form ∙ ap (option_map group_of) e in
        let same : this.group ≡ group = cc in
        let is_it : group_in group form ≡ this = subst (λ (g : List ℕ). group_in g form ≡ this) same (found_is_group bound form this up e) in
        record {
          over = subst (λ (g : List ℕ). is_above bound g ≡ true) same (found_over group_of bound form this e);
          named = ap group_of is_it ∙ same;
          first = over_first group_of bound form this up e ∙ ap (λ it. it ∷ groups_above (Some this.group) form) (sym is_it) ∙ ap (λ (g : List ℕ). group_in group form ∷ groups_above (Some g) form) same;
        }

pub next_group_holds : (P : GroupForm → Type 0) (bound : Option (List ℕ)) (form : List GroupForm) (group : List ℕ) → AreAscending (groups_of form) → AllByRecursion P form
    → next_above bound (groups_of form) ≡ Some group → P (group_in group form)
next_group_holds P bound form group up all found = by (find (is_over group_of bound) form) refl
  where
    by : (r : Option GroupForm) → find (is_over group_of bound) form ≡ r → P (group_in group form)
    by None e = absurd (let clash : Some group ≡ None = sym found ∙ find_mapped group_of bound form ∙ ap (option_map group_of) e in cc)
    by (Some this) e =
        let both : Some group ≡ Some this.group = sym found ∙ find_mapped group_of bound form ∙ ap (option_map group_of) e in
        let same : this.group ≡ group = cc in
        let is_it : group_in group form ≡ this = subst (λ (g : List ℕ). group_in g form ≡ this) same (found_is_group bound form this up e) in
        subst P (sym is_it) (found_holds group_of P bound form this all e)
