-- A list whose new item is put into its place, and then changed there.
use Rattle.std.proofs.Common.{◌≡◌, ◌∙◌, ℕ, Bool, true, false, ◌&&◌, ◌||◌, not, List, length, get_or}
use Rattle.std.proofs.Common.{slice_set}
use Rattle.std.proofs.Common.{Option, None, Some, is_some, ap, sym, refl, if◌then◌else◌, nat_lt}
use Rattle.std.proofs.Common.{unwrap_or}
use Rattle.std.proofs.lemmas.Bool.{false≢true}
use Rattle.std.proofs.lemmas.List.Edits.{get_or-insert_at}
use Rattle.std.specs.List.{insert}
use Rattle.pim_lines.specs.declared.either.AnyAddress.{AnyAddress}
use Rattle.pim_summary.specs.Lists.{place_of, item_at, has, put, keeps, listed, spare_of, settled}
use Rattle.pim_summary.specs.Lists.{kept_place}
use Rattle.pim_summary.proofs.Ordered.{both_ways, place_le, put_there, put_new, known_there}
use Rattle.pim_summary.proofs.Ordered.{set_insert}

some≢none : {A : Type 0} (x : A) → Some x ≡ None → ⊥
some≢none x e = false≢true (sym (ap is_some e))

some_is : {A : Type 0} (x y : A) → Some x ≡ Some y → x ≡ y
some_is x y e = ap (λ (o : Option _). unwrap_or o x) e

module _ {T : Type 0} (key : T → AnyAddress) (a : AnyAddress) (most : ℕ) (items : List T) where
  -- a place is there exactly where the list keeps the address
  pub kept_is : (kept : Option ℕ) (place : ℕ) → kept ≡ kept_place key a most items
      → kept ≡ Some place → (keeps key a most items ≡ true) × (place ≡ place_of key a items)
  kept_is kept place e is = both_ways (keeps key a most items)
      (λ so. (
        so,
        some_is place (place_of key a items) (sym is ∙ e
            ∙ ap (λ b. if b then Some (place_of key a items) else None) so),
      ))
      (λ not_so. absurd (some≢none place (sym is ∙ e
      ∙ ap (λ b. if b then Some (place_of key a items) else None) not_so)))

  pub kept_not : (kept : Option ℕ) → kept ≡ kept_place key a most items → kept ≡ None
      → keeps key a most items ≡ false
  kept_not kept e is = both_ways (keeps key a most items)
      (λ so. absurd (some≢none (place_of key a items) (sym (ap (λ b. if b then Some (place_of key a
      items) else None) so) ∙ sym e ∙ is)))
      (λ not_so. not_so)

  module _ (new : T) (spare : Option T) (is : spare ≡ spare_of key a most new items) where
    no_spare : has key a items ≡ true → spare ≡ None
    no_spare there = is ∙ ap (λ b. if not b && nat_lt (length items) most then Some new else None)
        there

    some_spare : has key a items ≡ false → keeps key a most items ≡ true → spare ≡ Some new
    some_spare away kept =
        let few : nat_lt (length items) most
        ≡ true = sym (ap (λ b. b || nat_lt (length items) most) away) ∙ kept in
        is ∙ ap (λ b. if not b && nat_lt (length items) most then Some new else None) away
        ∙ ap (λ b. if b then Some new else None) few

    -- the item at the place, before it is changed
    pub known_at : (d : T) → keeps key a most items ≡ true
        → get_or (settled key a spare items) (place_of key a items) d
        ≡ unwrap_or (item_at key a items) new
    known_at d kept = both_ways (has key a items)
        (λ there. ap (λ it. get_or (settled key a it items) (place_of key a items) d) (no_spare
        there) ∙ known_there key a items new d there)
        (λ away. ap (λ it. get_or (settled key a it items) (place_of key a items) d) (some_spare
        away kept)
        ∙ get_or-insert_at items (place_of key a items) new d (place_le key a items)
        ∙ sym (of_none (item_at key a items) away))
      where
        of_none : (o : Option T) → is_some o ≡ false → unwrap_or o new ≡ new
        of_none None e = refl
        of_none (Some x) e = absurd (false≢true (sym e))

    -- the same, by what calls promise
    pub known_by : (kept : Option ℕ) (place : ℕ) (front : List T) (old : T)
        → kept ≡ kept_place key a most items → kept ≡ Some place → front ≡ settled key a spare items
        → old ≡ get_or front place old → old ≡ unwrap_or (item_at key a items) new
    known_by kept place front old e some put_in at =
        let p = kept_is kept place e some in
        at ∙ ap (λ n. get_or front n old) p.1
        ∙ ap (λ l. get_or l (place_of key a items) old) put_in ∙ known_at old p.0

    -- a test of it, where the list keeps it
    pub tested_by : (test : T → Bool) (result : Bool) (kept : Option ℕ) (place : ℕ) (front : List
        T) (old : T) → kept ≡ kept_place key a most items → kept ≡ Some place
        → front ≡ settled key a spare items → old ≡ get_or front place old → result ≡ test old
        → result ≡ (keeps key a most items && test (unwrap_or (item_at key a items) new))
    tested_by test result kept place front old e some put_in at by =
        let p = kept_is kept place e some in
        by ∙ ap test (known_by kept place front old e some put_in at)
        ∙ sym (ap (λ b. b && test (unwrap_or (item_at key a items) new)) p.0)

    module _ (change : T → T) where
      -- the list after the change
      pub listed_at : (d : T) → keeps key a most items ≡ true
          → listed key a most new change items
          ≡ slice_set (settled key a spare items) (place_of key a items) (change (get_or (settled
          key a spare items) (place_of key a items) d))
      listed_at d kept = ap (λ b. if b then put key a new change items else items) kept
          ∙ both_ways (has key a items)
          (λ there. put_there key a new change items d there
          ∙ sym (ap (λ it. slice_set (settled key a it items) (place_of key a items) (change
          (get_or (settled key a it items) (place_of key a items) d))) (no_spare there)))
          (λ away. put_new key a new change items away
          ∙ sym (ap (λ it. slice_set (settled key a it items) (place_of key a items) (change
          (get_or (settled key a it items) (place_of key a items) d))) (some_spare away kept)
          ∙ ap (λ it. slice_set (insert items (place_of key a items) new) (place_of key a items)
          (change it)) (get_or-insert_at items (place_of key a items) new d (place_le key a
          items))
          ∙ set_insert items (place_of key a items) new (change new) (place_le key a items)))

      -- the same, by what calls promise
      pub changed : (kept : Option ℕ) (place : ℕ) (front final : List T) (old value : T)
          → kept ≡ kept_place key a most items → kept ≡ Some place
          → front ≡ settled key a spare items
          → old ≡ get_or front place old → value ≡ change old
          → final ≡ slice_set front place value → final ≡ listed key a most new change items
      changed kept place front final old value e some put_in at by set =
          let p = kept_is kept place e some in
          set ∙ ap (slice_set front place) (by ∙ ap change at)
          ∙ ap (λ n. slice_set front n (change (get_or front n old))) p.1
          ∙ ap (λ l. slice_set l (place_of key a items) (change (get_or l (place_of key a items)
          old))) put_in
          ∙ sym (listed_at old p.0)

      pub unchanged : (kept : Option ℕ) (final : List T) → kept ≡ kept_place key a most items
          → kept ≡ None → final ≡ settled key a spare items
          → final ≡ listed key a most new change items
      unchanged kept final e none put_in =
          let not_so = kept_not kept e none in
          put_in ∙ ap (λ it. settled key a it items) (is
          ∙ not_taken (has key a items) (nat_lt (length items) most) not_so)
          ∙ sym (ap (λ b. if b then put key a new change items else items) not_so)
        where
          not_taken : (b c : Bool) → (b || c) ≡ false
              → (if not b && c then Some new else None) ≡ None
          not_taken true c f = absurd (false≢true (sym f))
          not_taken false true f = absurd (false≢true (sym f))
          not_taken false false f = refl

-- an item that is there, changed
pub put_at : {T : Type 0} (key : T → AnyAddress) (a : AnyAddress) (new : T) (change : T
    → T) (items : List T) (at : ℕ) (old value : T) → has key a items ≡ true
    → at ≡ place_of key a items
    → old ≡ get_or items at old → value ≡ change old
    → slice_set items at value ≡ put key a new change items
put_at key a new change items at old value there is by set =
    ap (slice_set items at) (set ∙ ap change by)
    ∙ ap (λ n. slice_set items n (change (get_or items n old))) is
    ∙ sym (put_there key a new change items old there)
