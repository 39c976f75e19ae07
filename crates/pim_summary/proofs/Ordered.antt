-- Places in lists whose addresses ascend.
use Rattle.std.proofs.Common.{◌≡◌, ◌∙◌, ◌≤◌, ◌<◌, ℕ, zero, suc, Bool, true, false, ◌&&◌, List, []}
use Rattle.std.proofs.Common.{◌∷◌}
use Rattle.std.proofs.Common.{length, get_or, slice_set, Option, None, Some, is_some, IfSome, ap}
use Rattle.std.proofs.Common.{sym, refl, subst}
use Rattle.std.proofs.Common.{if◌then◌else◌, arith, nat_lt, unwrap_or}
use Rattle.std.proofs.lemmas.Bool.{false≢true}
use Rattle.std.proofs.lemmas.Bool.Decides.{nat_tests}
use Rattle.std.specs.List.{AllByRecursion, insert}
use Rattle.pim_addr.specs.Address.{number_of}
use Rattle.pim_lines.specs.declared.either.AnyAddress.{AnyAddress}
use Rattle.pim_lines.specs.declared.either.AnyAddress.TheVariants.{V4, V6}
use Rattle.pim_summary.specs.Lists.{is_below, is_same, Ascends, place_of, item_at, has, put}
use Rattle.pim_summary.specs.Lists.{settled}

-- ---- addresses

number_by : (a b c : ℕ) → nat_lt a b ≡ true → nat_lt a c ≡ false → nat_lt c b ≡ true
number_by a b c e f = grind (arith, nat_tests)

number_not : (a b : ℕ) → nat_lt a b ≡ true → nat_lt b a ≡ false
number_not a b e = grind (arith, nat_tests)

-- if one is below an address, and not below another, then that one is below the address
below_by : (one address other : AnyAddress) → is_below one address ≡ true
    → is_below one other ≡ false → is_below other address ≡ true
below_by (V4 a) (V4 b) (V4 c) e f = number_by (number_of a) (number_of b) (number_of c) e f
below_by (V4 a) (V4 b) (V6 c) e f = absurd (false≢true (sym f))
below_by (V4 a) (V6 b) (V4 c) e f = refl
below_by (V4 a) (V6 b) (V6 c) e f = absurd (false≢true (sym f))
below_by (V6 a) (V4 b) (V4 c) e f = absurd (false≢true e)
below_by (V6 a) (V4 b) (V6 c) e f = absurd (false≢true e)
below_by (V6 a) (V6 b) (V4 c) e f = refl
below_by (V6 a) (V6 b) (V6 c) e f = number_by (number_of a) (number_of b) (number_of c) e f

not_below : (one other : AnyAddress) → is_below one other ≡ true → is_below other one ≡ false
not_below (V4 a) (V4 b) e = number_not (number_of a) (number_of b) e
not_below (V4 a) (V6 b) e = refl
not_below (V6 a) (V4 b) e = absurd (false≢true e)
not_below (V6 a) (V6 b) e = number_not (number_of a) (number_of b) e

pub both_ways : {X : Type 0} (b : Bool) → (b ≡ true → X) → (b ≡ false → X) → X
both_ways true is not_so = is refl
both_ways false is not_so = not_so refl

not_below_by : (one other address : AnyAddress) → is_below one other ≡ false
    → is_below other address ≡ false → is_below one address ≡ false
not_below_by one other address f g = both_ways (is_below one address)
    (λ e. absurd (false≢true (sym g ∙ below_by one address other e f))) (λ e. e)

-- ---- lists

module _ {T : Type 0} where
  all_at : (P : T → Type 0) (items : List T) (m : ℕ) (d : T) → AllByRecursion P items
      → m < length items → P (get_or items m d)
  all_at P [] m d h w = absurd (omega (arith, w))
  all_at P (item ∷ items) zero d h w = h.0
  all_at P (item ∷ items) (suc m) d h w = all_at P items m d h.1 (omega (arith, w))

  all_map : (P Q : T → Type 0) (items : List T) → ((item : T) → P item → Q item)
      → AllByRecursion P items → AllByRecursion Q items
  all_map P Q [] f h = tt
  all_map P Q (item ∷ items) f h = (f item h.0, all_map P Q items f h.1)

  all_insert : (P : T → Type 0) (items : List T) (m : ℕ) (item : T) → AllByRecursion P items
      → P item → AllByRecursion P (insert items m item)
  all_insert P items zero item h p = (p, h)
  all_insert P [] (suc m) item h p = (p, tt)
  all_insert P (x ∷ items) (suc m) item h p = (h.0, all_insert P items m item h.1 p)

  all_set : (P : T → Type 0) (items : List T) (m : ℕ) (item : T) → AllByRecursion P items
      → P item → AllByRecursion P (slice_set items m item)
  all_set P [] m item h p = tt
  all_set P (x ∷ items) zero item h p = (p, h.1)
  all_set P (x ∷ items) (suc m) item h p = (h.0, all_set P items m item h.1 p)

  pub set_insert : (items : List T) (m : ℕ) (item value : T) → m ≤ length items
      → slice_set (insert items m item) m value ≡ insert items m value
  set_insert items zero item value w = refl
  set_insert [] (suc m) item value w = absurd (omega (arith, w))
  set_insert (x ∷ items) (suc m) item value w = ap (λ it. x ∷ it) (set_insert items m item value
      (omega (arith, w)))

pub lt_true : (a b : ℕ) → a < b → nat_lt a b ≡ true
lt_true a b h = grind (arith, nat_tests)

lt_false : (a b : ℕ) → b ≤ a → nat_lt a b ≡ false
lt_false a b h = grind (arith, nat_tests)

lt_of : (a b : ℕ) → nat_lt a b ≡ true → a < b
lt_of a b e = grind (arith, nat_tests)

lt_not : (a b : ℕ) → nat_lt a b ≡ false → b ≤ a
lt_not a b e = grind (arith, nat_tests)

lt_suc : (a b : ℕ) → nat_lt (suc a) (suc b) ≡ nat_lt a b
lt_suc a b = both_ways (nat_lt a b)
    (λ e. lt_true (suc a) (suc b) (omega (arith, lt_of a b e)) ∙ sym e)
    (λ e. lt_false (suc a) (suc b) (omega (arith, lt_not a b e)) ∙ sym e)

le_if : (b : Bool) (p n : ℕ) → p ≤ n → (if b then suc p else 0) ≤ suc n
le_if true p n h = omega (arith, h)
le_if false p n h = omega arith

some_if : {T : Type 0} (b : Bool) (item : T) → is_some (if b then Some item else None) ≡ b
some_if true item = refl
some_if false item = refl

module _ {T : Type 0} (key : T → AnyAddress) where
  -- a change of an item with the same address keeps the order
  pub set_ascends : (items : List T) (m : ℕ) (d value : T) → key value ≡ key (get_or items m d)
      → m < length items → Ascends key items → Ascends key (slice_set items m value)
  unfolding Ascends
  set_ascends [] m d value e w h = tt
  set_ascends (x ∷ items) zero d value e w h = (
    subst (λ (k : AnyAddress). AllByRecursion (λ later. is_below (key later) k
        ≡ false) items) (sym e) h.0,
    h.1,
  )
  set_ascends (x ∷ items) (suc m) d value e w h =
      let there : is_below (key (get_or items m d)) (key x) ≡ false =
      all_at (λ later. is_below (key later) (key x) ≡ false) items m d h.0 (omega (arith, w)) in (
        all_set (λ later. is_below (key later) (key x)
            ≡ false) items m value h.0 (ap (λ k. is_below k (key x)) e ∙ there),
        set_ascends items m d value e (omega (arith, w)) h.1,
      )

  module _ (a : AnyAddress) where
    pub place_le : (items : List T) → place_of key a items ≤ length items
    unfolding place_of
    place_le [] = omega arith
    place_le (item ∷ items) = le_if (is_below (key item) a) (place_of key a items) (length items)
        (place_le items)

    -- an item below the address is before its place
    pub before : (items : List T) (m : ℕ) (d : T) → Ascends key items → m < length items
        → is_below (key (get_or items m d)) a ≡ true → m < place_of key a items
    unfolding place_of Ascends
    before [] m d h w e = absurd (omega (arith, w))
    before (item ∷ items) zero d h w e = rw e (omega arith)
    before (item ∷ items) (suc m) d h w e =
        let not_it : is_below (key (get_or items m d)) (key item) ≡ false =
        all_at (λ later. is_below (key later) (key item)
        ≡ false) items m d h.0 (omega (arith, w)) in
        let here : is_below (key item) a
        ≡ true = below_by (key (get_or items m d)) a (key item) e not_it in
        let later : m < place_of key a items = before items m d h.1 (omega (arith, w)) e in
        rw here (omega (arith, later))

    -- another item isn't
    pub after : (items : List T) (m : ℕ) (d : T) → m < length items
        → is_below (key (get_or items m d)) a ≡ false → place_of key a items ≤ m
    unfolding place_of
    after [] m d w e = omega arith
    after (item ∷ items) zero d w e = rw e (omega arith)
    after (item ∷ items) (suc m) d w e = le_if (is_below (key item) a) (place_of key a items) m
        (after items m d (omega (arith, w)) e)

    -- whether the item at the place has the address
    pub there_at : (items : List T) (d : T)
        → has key a items ≡ (nat_lt (place_of key a items) (length items) && is_same a (key (get_or
        items (place_of key a items) d)))
    unfolding place_of item_at
    there_at [] d = refl
    there_at (item ∷ items) d = by (is_below (key item) a) (there_at items d)
      where
        by : (b : Bool) → has key a items
            ≡ (nat_lt (place_of key a items) (length items) && is_same a (key (get_or items
            (place_of key a items) d)))
            → is_some (if b then item_at key a items else (if is_same a (key item) then Some item
            else None))
            ≡ (nat_lt (if b then suc (place_of key a items) else 0) (suc (length items))
            && is_same a (key (get_or (item ∷ items) (if b then suc (place_of key a items) else 0)
            d)))
        by true h = h ∙ ap (λ b. b && is_same a (key (get_or items (place_of key a items) d))) (sym
            (lt_suc (place_of key a items) (length items)))
        by false h = some_if (is_same a (key item)) item
            ∙ sym (ap (λ b. b && is_same a (key item)) (lt_true 0 (suc (length items)) (omega
            arith)))

    -- an item with the address in its place keeps the order
    pub insert_ascends : (items : List T) (item : T) → key item ≡ a → Ascends key items
        → Ascends key (insert items (place_of key a items) item)
    unfolding place_of Ascends
    insert_ascends [] item e h = (tt, tt)
    insert_ascends (x ∷ items) item e h = both_ways (is_below (key x) a)
        (λ under. rw under (
          all_insert (λ later. is_below (key later) (key x)
              ≡ false) items (place_of key a items) item h.0
              (ap (λ k. is_below k (key x)) e ∙ not_below (key x) a under),
          insert_ascends items item e h.1,
        ))
        (λ above. rw above (
          (
            ap (is_below (key x)) e ∙ above,
            all_map (λ later. is_below (key later) (key x)
                ≡ false) (λ later. is_below (key later) (key item) ≡ false) items
                (λ later not_x. ap (is_below (key later)) e
                ∙ not_below_by (key later) (key x) a not_x above) h.0,
          ),
          h,
        ))

    module _ (new : T) (change : T → T) where
      -- the item that is there is changed
      pub put_there : (items : List T) (d : T) → has key a items ≡ true
          → put key a new change items
          ≡ slice_set items (place_of key a items) (change (get_or items (place_of key a items) d))
      unfolding place_of item_at put
      put_there [] d e = absurd (false≢true e)
      put_there (item ∷ items) d e = by (is_below (key item) a) (is_same a (key item)) (put_there
          items d) e
        where
          by : (b s : Bool)
              → (has key a items ≡ true → put key a new change items
              ≡ slice_set items (place_of key a items) (change (get_or items (place_of key a
              items) d)))
              → is_some (if b then item_at key a items else (if s then Some item else None)) ≡ true
              → (if b then item ∷ put key a new change items else (if s then change item ∷ items
              else change new ∷ item ∷ items))
              ≡ slice_set (item ∷ items) (if b then suc (place_of key a items) else 0) (change
              (get_or (item ∷ items) (if b then suc (place_of key a items) else 0) d))
          by true s h f = ap (λ it. item ∷ it) (h f)
          by false true h f = refl
          by false false h f = absurd (false≢true f)

      -- a new one is put into its place
      pub put_new : (items : List T) → has key a items ≡ false
          → put key a new change items ≡ insert items (place_of key a items) (change new)
      unfolding place_of item_at put
      put_new [] e = refl
      put_new (item ∷ items) e = by (is_below (key item) a) (is_same a (key item)) (put_new items) e
        where
          by : (b s : Bool) → (has key a items ≡ false
              → put key a new change items ≡ insert items (place_of key a items) (change new))
              → is_some (if b then item_at key a items else (if s then Some item else None)) ≡ false
              → (if b then item ∷ put key a new change items else (if s then change item ∷ items
              else change new ∷ item ∷ items))
              ≡ insert (item ∷ items) (if b then suc (place_of key a items) else 0) (change new)
          by true s h f = ap (λ it. item ∷ it) (h f)
          by false true h f = absurd (false≢true (sym f))
          by false false h f = refl

    -- a spare item in its place keeps the order
    pub settled_ascends : (items : List T) (spare : Option T)
        → IfSome spare (λ item. key item ≡ a) → Ascends key items
        → Ascends key (settled key a spare items)
    settled_ascends items None e h = h
    settled_ascends items (Some item) e h = insert_ascends items item e h

    -- the item that is there
    pub known_there : (items : List T) (new d : T) → has key a items ≡ true
        → get_or items (place_of key a items) d ≡ unwrap_or (item_at key a items) new
    unfolding place_of item_at
    known_there [] new d e = absurd (false≢true e)
    known_there (item ∷ items) new d e = by (is_below (key item) a) (is_same a (key item))
        (known_there items new d) e
      where
        by : (b s : Bool) → (has key a items ≡ true
            → get_or items (place_of key a items) d ≡ unwrap_or (item_at key a items) new)
            → is_some (if b then item_at key a items else (if s then Some item else None)) ≡ true
            → get_or (item ∷ items) (if b then suc (place_of key a items) else 0) d
            ≡ unwrap_or (if b then item_at key a items else (if s then Some item else None)) new
        by true s h f = h f
        by false true h f = refl
        by false false h f = absurd (false≢true f)

    -- the test of the item at the place
    pub is_there : (items : List T) (at : ℕ) (d item : T) (same : Bool)
        → at ≡ place_of key a items → at < length items → item ≡ get_or items at d
        → same ≡ is_same a (key item) → same ≡ has key a items
    is_there items at d item same p w i s =
        let within : nat_lt (place_of key a items) (length items)
        ≡ true = lt_true (place_of key a items) (length items) (omega (arith, p, w)) in
        s ∙ ap (λ it. is_same a (key it)) i ∙ ap (λ n. is_same a (key (get_or items n d))) p
        ∙ sym (there_at items d ∙ ap (λ b. b && is_same a (key (get_or items (place_of key a items)
        d))) within)

    pub is_past : (items : List T) (at : ℕ) → at ≡ place_of key a items → length items ≤ at
        → nat_lt at (length items) ≡ has key a items
    unfolding place_of item_at
    is_past [] at p w = lt_false at 0 (omega arith)
    is_past (item ∷ items) at p w =
        let past : nat_lt (place_of key a (item ∷ items)) (length (item ∷ items)) ≡ false =
        lt_false (place_of key a (item ∷ items)) (length (item ∷ items)) (omega (arith, p, w)) in
        ap (λ n. nat_lt n (length (item ∷ items))) p ∙ past
        ∙ sym (there_at (item ∷ items) item
        ∙ ap (λ b. b && is_same a (key (get_or (item ∷ items) (place_of key a (item ∷ items))
        item))) past)

    pub there_within : (items : List T) → has key a items ≡ true
        → place_of key a items < length items
    unfolding place_of item_at
    there_within [] e = absurd (false≢true e)
    there_within (item ∷ items) e = by (is_below (key item) a) (is_same a (key item)) (there_within
        items) e
      where
        by : (b s : Bool) → (has key a items ≡ true → place_of key a items < length items)
            → is_some (if b then item_at key a items else (if s then Some item else None)) ≡ true
            → (if b then suc (place_of key a items) else 0) < suc (length items)
        by true s h f = omega (arith, h f)
        by false s h f = omega arith

-- no items ascend
pub none_ascends : {T : Type 0} (key : T → AnyAddress) (items : List T) → items ≡ []
    → Ascends key items
unfolding Ascends
none_ascends key items e = subst (Ascends key) (sym e) tt
