-- Keys and values in key order: what they hold, and changes at the place that a search returns.
use Rattle.pim_trace.proofs.Words.{◌≡◌, ℕ, zero, suc, ◌-◌, ◌<◌, ◌≤◌, Bool, true, false, cond, List, [], ◌∷◌, Option, Some, None}
use Rattle.pim_trace.proofs.Words.{Ok, Err, length, get_or, ltb, refl, sym, ap, subst, ◌∙◌, arith, Ordering, Less, Equal, Greater}
use Rattle.pim_trace.proofs.Words.{slice_get, slice_set, IsSome, ordering_reverse, is_eq, is_at, IsTotalOrder, AllByRecursion}
use Rattle.pim_trace.proofs.Words.{insert, remove, IsStrictlySortedBy, lookup, keys_of, set_value, remove_entry, false≢true}
use Rattle.pim_trace.proofs.Words.{ltb-true, ltb-false, What, Star, Source, Rpt, Key, rank, source_of, what_cmp, key_cmp}
use Rattle.pim_trace.proofs.Words.{same_key, key_seen, what_seen, order_of_keys, IsInKeyOrder, held_for, IsPlaceFor, Holds}
use Rattle.std.specs.Option.{is_some}
use Rattle.std.proofs.lemmas.Cmp.{nat_cmp_total, nat_list_cmp_total, on_total, then_total, alike_right, eq_by_cmp_equiv}
use Rattle.std.proofs.lemmas.Map.{none_passes_from_lookup, lookup-insert, lookup-set_value, lookup-remove_entry, keys-set_value}
use Rattle.std.proofs.lemmas.Map.Entries.{lookup_at_gap}
use Rattle.std.proofs.lemmas.Map.Keys.{IsDistinct-from_sorted}
use Rattle.std.proofs.lemmas.Option.{get_or_from_slice_get, slice_get_within, slice_get_read}
use Rattle.sorted_blocks.specs.declared.place.Place.{Place}
use Rattle.sorted_blocks.specs.Found.{IsGap}
use Rattle.sorted_slab.specs.Listed.{Listed, at}

key_total : IsTotalOrder key_cmp
unfolding key_cmp what_cmp
key_total =
    then_total
    (then_total (on_total (λ (k : Key (List ℕ)). k.port) nat_cmp_total) (on_total (λ (k : Key (List ℕ)). k.group) nat_list_cmp_total))
    (on_total (λ (k : Key (List ℕ)). k.what) (then_total (on_total rank nat_cmp_total) (on_total source_of nat_list_cmp_total)))

none_some : {X : Type 0} {x : X} → None ≡ Some x → ⊥
none_some e = absurd (false≢true (ap is_some e))

some_back : {X : Type 0} {x y : X} → Some x ≡ Some y → x ≡ y
some_back e = cc

element : {X : Type 0} (xs : List X) (n : ℕ) → n < length xs → (x : X) × (slice_get xs n ≡ Some x)
element [] n w = absurd (omega arith)
element (x ∷ xs) zero w = (x, refl)
element (x ∷ xs) (suc n) w = element xs n (omega arith)

module _ {A : Type 0} (bytes_of : A → List ℕ) where
  abbrev R : Key A → Key A → Ordering
  R a b = order_of_keys bytes_of a b

  total : IsTotalOrder R
  total = on_total (key_seen bytes_of) key_total

  all_above : (a b : Key A) → R a b ≡ Less → (ks : List (Key A)) → AllByRecursion (λ y. R b y ≡ Less) ks → AllByRecursion (λ y. R a y ≡ Less) ks
  all_above a b e [] all = tt
  all_above a b e (y ∷ ks) all = (total.trans a b y e all.0, all_above a b e ks all.1)

  module _ (address_of : List ℕ → A) (back : (b : List ℕ) → bytes_of (address_of b) ≡ b) where
    -- a key of the code with these bytes
    what_made : What (List ℕ) → What A
    what_made Star = Star
    what_made (Source source) = Source (address_of source)
    what_made (Rpt source) = Rpt (address_of source)

    abbrev key_made : Key (List ℕ) → Key A
    key_made key = record { port = key.port; group = address_of key.group; what = what_made key.what }

    what_back : (what : What (List ℕ)) → what_seen bytes_of (what_made what) ≡ what
    unfolding what_made
    what_back Star = refl
    what_back (Source source) = ap (λ s. Source s) (back source)
    what_back (Rpt source) = ap (λ s. Rpt s) (back source)

    key_back : (key : Key (List ℕ)) → key_seen bytes_of (key_made key) ≡ key
    key_back key = λ i. record { port = key.port; group = back key.group i; what = what_back key.what i }

  module _ {V : Type 0} where
    abbrev Sorted : List (Key A × V) → Type 0
    Sorted es = IsStrictlySortedBy R (keys_of es)

    -- the keys before this index are less
    abbrev AreLess : Key A → List (Key A × V) → ℕ → Type 0
    AreLess k es i = (j : ℕ) (d : Key A × V) → j < i → slice_get es j ≡ Some d → R d.0 k ≡ Less

    -- ---- what stands before the place of a key

    below_at : (k : Key A) (es : List (Key A × V)) (i : ℕ) (e : Key A × V) → AllByRecursion (λ y. R k y ≡ Less) (keys_of es) → slice_get es i ≡ Some e → R k e.0 ≡ Less
    below_at k [] i e all here = absurd (none_some here)
    below_at k (x ∷ es) zero e all here = subst (λ (p : Key A × V). R k p.0 ≡ Less) (some_back here) all.0
    below_at k (x ∷ es) (suc i) e all here = below_at k es i e all.1 here

    rise : (es : List (Key A × V)) (j i : ℕ) (d e : Key A × V) → Sorted es → j < i → slice_get es j ≡ Some d → slice_get es i ≡ Some e → R d.0 e.0 ≡ Less
    unfolding IsStrictlySortedBy
    rise [] j i d e s lt f g = absurd (none_some f)
    rise (x ∷ es) zero zero d e s lt f g = absurd (omega arith)
    rise (x ∷ es) zero (suc i) d e s lt f g = subst (λ (p : Key A × V). R p.0 e.0 ≡ Less) (some_back f) (below_at x.0 es i e s.0 g)
    rise (x ∷ es) (suc j) zero d e s lt f g = absurd (omega arith)
    rise (x ∷ es) (suc j) (suc i) d e s lt f g = rise es j i d e s.1 (omega arith) f g

    less_equal : (es : List (Key A × V)) (i : ℕ) (e : Key A × V) (k : Key A) → Sorted es → slice_get es i ≡ Some e → R e.0 k ≡ Equal → AreLess k es i
    less_equal es i e k s here same j d lt g = sym (alike_right total e.0 k d.0 same) ∙ rise es j i d e s lt g here

    less_gap : (es : List (Key A × V)) (i : ℕ) (k : Key A) → Sorted es → i ≤ length es → IsGap (λ (item : Key A × V). R item.0 k) es i → AreLess k es i
    less_gap es i k s w gap j d lt g = by (ltb j (i - 1)) refl
      where
        by : (t : Bool) → ltb j (i - 1) ≡ t → R d.0 k ≡ Less
        by true t =
            let last = element es (i - 1) (omega (arith, w, lt)) in
            total.trans d.0 last.0.0 k (rise es j (i - 1) d last.0 s (ltb-true j (i - 1) t) g last.1)
            (subst (λ (p : Key A × V). R p.0 k ≡ Less) (get_or_from_slice_get es (i - 1) last.0 d last.1) (gap.less d (omega (arith, lt))))
        by false t =
            let one : i - 1 ≡ j = omega (arith, lt, ltb-false j (i - 1) t) in
            subst (λ (p : Key A × V). R p.0 k ≡ Less) (get_or_from_slice_get es j d d g)
            (subst (λ n. R (get_or es n d).0 k ≡ Less) one (gap.less d (omega (arith, lt))))

    above_gap : (es : List (Key A × V)) (i : ℕ) (k : Key A) → IsGap (λ (item : Key A × V). R item.0 k) es i → (e : Key A × V) → slice_get es i ≡ Some e → R k e.0 ≡ Less
    above_gap es i k gap e here =
        total.antisymm k e.0
        ∙ ap ordering_reverse (subst (λ (p : Key A × V). R p.0 k ≡ Greater) (get_or_from_slice_get es i e e here) (gap.greater e (slice_get_within es i e here)))

    -- ---- a key that stands there

    -- what is held, and what a change or a removal there leaves
    record Stands (k : Key A) (es : List (Key A × V)) (i : ℕ) (e : Key A × V) : Type 0 where
      pub held : lookup (is_at (R k)) es ≡ Some e.1
      pub changed : (v : V) → slice_set es i (e.0, v) ≡ set_value (is_at (R k)) es v
      pub gone : remove es i ≡ remove_entry (is_at (R k)) es

    stands : (k : Key A) (es : List (Key A × V)) (i : ℕ) (e : Key A × V) → AreLess k es i → slice_get es i ≡ Some e → R e.0 k ≡ Equal → Stands k es i e
    stands k [] i e less here same = absurd (none_some here)
    stands k (x ∷ es) zero e less here same =
        let one : e ≡ x = sym (some_back here) in
        let test : is_eq (R k x.0) ≡ true = ap is_eq (total.antisymm k x.0 ∙ ap ordering_reverse (subst (λ (p : Key A × V). R p.0 k ≡ Equal) one same)) in
        record {
          held = rw test (ap (λ (p : Key A × V). Some p.1) (sym one));
          changed = λ v. rw test (ap (λ (p : Key A × V). (p.0, v) ∷ es) one);
          gone = rw test refl;
        }
    stands k (x ∷ es) (suc i) e less here same =
        let test : is_eq (R k x.0) ≡ false = ap is_eq (total.antisymm k x.0 ∙ ap ordering_reverse (less 0 x (omega arith) refl)) in
        let rest = stands k es i e (λ j d lt g. less (suc j) d (omega arith) g) here same in
        record {
          held = rw test rest.held;
          changed = λ v. rw test (ap (λ ys. x ∷ ys) (rest.changed v));
          gone = rw test (ap (λ ys. x ∷ ys) rest.gone);
        }

    -- ---- the order is kept

    all_inserted : (P : Key A → Type 0) (es : List (Key A × V)) (i : ℕ) (e : Key A × V) → AllByRecursion P (keys_of es) → P e.0 → AllByRecursion P (keys_of (insert es i e))
    all_inserted P [] zero e all one = (one, tt)
    all_inserted P [] (suc i) e all one = (one, tt)
    all_inserted P (x ∷ es) zero e all one = (one, all)
    all_inserted P (x ∷ es) (suc i) e all one = (all.0, all_inserted P es i e all.1 one)

    sorted_inserted : (es : List (Key A × V)) (i : ℕ) (e : Key A × V) → Sorted es → AreLess e.0 es i → ((d : Key A × V) → slice_get es i ≡ Some d → R e.0 d.0 ≡ Less) → Sorted (insert es i e)
    unfolding IsStrictlySortedBy
    sorted_inserted [] zero e s less above = (tt, tt)
    sorted_inserted [] (suc i) e s less above = (tt, tt)
    sorted_inserted (x ∷ es) zero e s less above = ((above x refl, all_above e.0 x.0 (above x refl) (keys_of es) s.0), s)
    sorted_inserted (x ∷ es) (suc i) e s less above =
        (all_inserted (λ y. R x.0 y ≡ Less) es i e s.0 (less 0 x (omega arith) refl), sorted_inserted es i e s.1 (λ j d lt g. less (suc j) d (omega arith) g) above)

    all_left : (P : Key A → Type 0) (es : List (Key A × V)) (i : ℕ) → AllByRecursion P (keys_of es) → AllByRecursion P (keys_of (remove es i))
    all_left P [] zero all = tt
    all_left P [] (suc i) all = tt
    all_left P (x ∷ es) zero all = all.1
    all_left P (x ∷ es) (suc i) all = (all.0, all_left P es i all.1)

    sorted_left : (es : List (Key A × V)) (i : ℕ) → Sorted es → Sorted (remove es i)
    unfolding IsStrictlySortedBy
    sorted_left [] zero s = tt
    sorted_left [] (suc i) s = tt
    sorted_left (x ∷ es) zero s = s.1
    sorted_left (x ∷ es) (suc i) s = (all_left (λ y. R x.0 y ≡ Less) es i s.0, sorted_left es i s.1)

    -- ---- at the place that a search returns

    module _ (list : Listed (Key A × V)) (k : Key A) (order : IsInKeyOrder bytes_of list.items) (place : Place) where
      module _ (found : IsPlaceFor bytes_of k list (Ok place)) (e : Key A × V) (is : e ≡ get_or list.items (at list place) e) where
        here : slice_get list.items (at list place) ≡ Some e
        here = slice_get_read list.items (length list.items) (at list place) e refl found.1.within is

        same : R e.0 k ≡ Equal
        same = subst (λ (p : Key A × V). R p.0 k ≡ Equal) (sym is) (found.1.equal e)

        stood : Stands k list.items (at list place) e
        unfolding IsInKeyOrder
        stood = stands k list.items (at list place) e (less_equal list.items (at list place) e k order here same) here same

        pub value_is : Some e.1 ≡ held_for bytes_of list.items (key_seen bytes_of k)
        unfolding held_for
        value_is = sym stood.held

        pub order_set : (v : V) (new : List (Key A × V)) → new ≡ slice_set list.items (at list place) (e.0, v) → IsInKeyOrder bytes_of new
        unfolding IsInKeyOrder
        order_set v new f = subst (IsStrictlySortedBy R) (sym (ap keys_of (f ∙ stood.changed v) ∙ keys-set_value (is_at (R k)) list.items v)) order

      pub order_left : (new : List (Key A × V)) → new ≡ remove list.items (at list place) → IsInKeyOrder bytes_of new
      unfolding IsInKeyOrder
      order_left new f = subst Sorted (sym f) (sorted_left list.items (at list place) order)

      module _ (found : IsPlaceFor bytes_of k list (Err place)) where
        less : AreLess k list.items (at list place)
        unfolding IsInKeyOrder
        less = less_gap list.items (at list place) k order found.1 found.2

        none : lookup (is_at (R k)) list.items ≡ None
        unfolding IsInKeyOrder
        none = lookup_at_gap total k list.items (at list place) order (λ j d lt g. total.antisymm k d.0 ∙ ap ordering_reverse (less j d lt g)) (above_gap list.items (at list place) k found.2)

        pub no_value : None ≡ held_for bytes_of list.items (key_seen bytes_of k)
        unfolding held_for
        no_value = sym none

        pub order_inserted : (v : V) (new : List (Key A × V)) → new ≡ insert list.items (at list place) (k, v) → IsInKeyOrder bytes_of new
        unfolding IsInKeyOrder
        order_inserted v new f = subst Sorted (sym f) (sorted_inserted list.items (at list place) (k, v) order less (above_gap list.items (at list place) k found.2))

    pub order_none : (new : List (Key A × V)) → new ≡ [] → IsInKeyOrder bytes_of new
    unfolding IsInKeyOrder IsStrictlySortedBy
    order_none new f = subst Sorted (sym f) tt

    -- ---- what is held afterwards

    module _ (address_of : List ℕ → A) (back : (b : List ℕ) → bytes_of (address_of b) ≡ b) where
      by_keys : (k : Key A) (w : Option V) (old new : List (Key A × V)) → ((q : Key A) → lookup (is_at (R q)) new ≡ cond (is_at (R k) q) w (lookup (is_at (R q)) old)) → Holds bytes_of k w old new
      unfolding held_for
      by_keys k w old new h key =
          subst (λ (x : Key (List ℕ)). held_for bytes_of new x ≡ cond (same_key (key_seen bytes_of k) x) w (held_for bytes_of old x)) (key_back address_of back key) (h (key_made address_of back key))

      module _ (list : Listed (Key A × V)) (k : Key A) (order : IsInKeyOrder bytes_of list.items) (place : Place) (new : List (Key A × V)) where
        pub holds_set : IsPlaceFor bytes_of k list (Ok place) → (e : Key A × V) → e ≡ get_or list.items (at list place) e → (v : V) → new ≡ slice_set list.items (at list place) (e.0, v) → Holds bytes_of k (Some v) list.items new
        holds_set found e is v f = by_keys k (Some v) list.items new (λ q.
            let it = stood list k order place found e is in
            let laws = eq_by_cmp_equiv total in
            ap (lookup (is_at (R q))) (f ∙ it.changed v)
            ∙ lookup-set_value laws (is_at (R k)) (λ x y h. laws.congr k x y h) q v list.items (subst IsSome (sym it.held) refl))

        pub holds_inserted : IsPlaceFor bytes_of k list (Err place) → (v : V) → new ≡ insert list.items (at list place) (k, v) → Holds bytes_of k (Some v) list.items new
        holds_inserted found v f = by_keys k (Some v) list.items new (λ q.
            ap (lookup (is_at (R q))) f
            ∙ lookup-insert (eq_by_cmp_equiv total) k v q list.items (at list place) (none_passes_from_lookup (is_at (R k)) list.items (none list k order place found)))

        pub holds_left : IsPlaceFor bytes_of k list (Ok place) → (e : Key A × V) → e ≡ get_or list.items (at list place) e → new ≡ remove list.items (at list place) → Holds bytes_of k None list.items new
        unfolding IsInKeyOrder
        holds_left found e is f = by_keys k None list.items new (λ q.
            let laws = eq_by_cmp_equiv total in
            ap (lookup (is_at (R q))) (f ∙ (stood list k order place found e is).gone)
            ∙ lookup-remove_entry laws (is_at (R k)) (λ x y h. laws.congr k x y h) q list.items (IsDistinct-from_sorted R (keys_of list.items) order))

        -- without a place nothing changes
        pub holds_none : IsPlaceFor bytes_of k list (Err place) → Holds bytes_of k None list.items list.items
        holds_none found = by_keys k None list.items list.items (λ q. kept q (is_at (R k) q) refl)
          where
            kept : (q : Key A) (b : Bool) → is_at (R k) q ≡ b → lookup (is_at (R q)) list.items ≡ cond (is_at (R k) q) None (lookup (is_at (R q)) list.items)
            kept q true e = rw e (same_test q e)
              where
                same_test : (q : Key A) → is_at (R k) q ≡ true → lookup (is_at (R q)) list.items ≡ None
                same_test q e = (λ i. lookup (λ x. sym ((eq_by_cmp_equiv total).congr k q x e) i) list.items) ∙ none list k order place found
            kept q false e = rw e refl
