-- Timers of one kind that end together: taken out where they are side by side, and put in again.
use Rattle.pim_down.proofs.Words.{◌≡◌, ℕ, zero, suc, ◌+◌, ◌<◌, ◌≤◌, true, false, cond, List, [], ◌∷◌, ◌++◌, Option, Some, None, option_map, map, length, take, drop, get_or, refl, sym, ap, ap₂, subst, ◌∙◌, arith, length-append, length-drop, remove, AllByRecursion, is_gt, drop-drop, take_at, drop_at, length-take-le, map-append, take-map, drop-map, length-map, get_or-map, get_or-take, get_or-drop, take-append-drop, length-remove, get_or-remove_above, Slab, get, cut, Alarm, Held, Key, placed, without, Numbered, alarm_cmp, alarm_of, AreKnown, with_run, key_seen}
use Rattle.pim_down.specs.Schedule.{key_of}
use Rattle.pim_down.proofs.InOrder.{order_placed, without_placed, remove_is}
use Rattle.pim_down.proofs.AlarmOrder.{alarm_total, same_alarm, all_placed, one_of, known_rest}
use Rattle.pim_down.proofs.Rpts.{same_default}

-- ---- cuts

module _ {X : Type 0} where
  cut_none : (xs : List X) (a : ℕ) → cut xs a 0 ≡ xs
  unfolding cut
  cut_none xs a =
      let same : a + 0 ≡ a = omega arith in
      ap (λ k. take a xs ++ drop k xs) same ∙ take-append-drop a xs

  cut_next : (xs : List X) (a n : ℕ) → a < length xs → cut (remove xs a) a n ≡ cut xs a (suc n)
  unfolding cut
  cut_next xs a n w =
      let f = take a xs in
      let b = drop (suc a) xs in
      let len : length f ≡ a = length-take-le a xs (omega (arith, w)) in
      let behind : suc a + n ≡ a + suc n = omega arith in
      ap₂ (λ p q. p ++ q) (take_at f b a len) (sym (drop-drop n a (f ++ b)) ∙ ap (drop n) (drop_at f b a len) ∙ drop-drop n (suc a) xs ∙ ap (λ k. drop k xs) behind)

map_cut : {X Y : Type 0} (f : X → Y) (xs : List X) (a n : ℕ) → cut (map f xs) a n ≡ map f (cut xs a n)
unfolding cut
map_cut f xs a n = ap₂ (λ p q. p ++ q) (take-map f a xs) (drop-map f (a + n) xs) ∙ sym (map-append f (take a xs) (drop (a + n) xs))

this_placed : (P : Numbered → Type 0) (x : Numbered) (ys : List Numbered) → AllByRecursion P (placed alarm_cmp x ys) → P x
unfolding placed
this_placed P x [] all = all.0
this_placed P x (y ∷ ys) all =
    elim (is_gt (alarm_cmp x y)) as (λ b. AllByRecursion P (cond b (y ∷ placed alarm_cmp x ys) (x ∷ y ∷ ys)) → P x) [
      | true ↦ λ a. this_placed P x ys a.1
      | false ↦ λ a. a.0
    ] all

-- ---- a run

module _ {A : Type 0} (bytes_of : A → List ℕ) where
  abbrev pub timer_of : ℕ → ℕ → Held A → Numbered
  timer_of ends n x = record { ends_at = ends; key = key_seen bytes_of x.key; number = n }

  module _ (slab : Slab (Held A)) where
    abbrev pub HasKey : Numbered → Type 0
    HasKey t = key_of bytes_of slab t.number ≡ Some t.key

    pub known_this : (t : Numbered) (ts : List Numbered) → AreKnown bytes_of slab (placed alarm_cmp t ts) → HasKey t
    known_this t ts known = this_placed HasKey t ts known.keys

    pub known_that : (t : Numbered) (ts : List Numbered) → AreKnown bytes_of slab (placed alarm_cmp t ts) → AreKnown bytes_of slab ts
    known_that t ts known = known_rest bytes_of slab t.key t.number (Some t.ends_at) ts known

    pub known_more : (t : Numbered) (ts : List Numbered) → HasKey t → AreKnown bytes_of slab ts → AreKnown bytes_of slab (placed alarm_cmp t ts)
    known_more t ts key known = record {
      keys = all_placed HasKey t ts key known.keys;
      order = order_placed alarm_cmp alarm_total same_alarm t ts known.order;
    }

    pub known_base : (ends : ℕ) (ns : List ℕ) (xs : List (Held A)) (ts : List Numbered) → AreKnown bytes_of slab (with_run bytes_of ends ns xs ts) → AreKnown bytes_of slab ts
    unfolding with_run
    known_base ends [] xs ts known = known
    known_base ends (n ∷ ns) [] ts known = known
    known_base ends (n ∷ ns) (x ∷ xs) ts known = known_base ends ns xs ts (known_that (timer_of ends n x) (with_run bytes_of ends ns xs ts) known)

    -- with another end, the first of them are known too
    pub known_front : (ends to : ℕ) (ns : List ℕ) (xs : List (Held A)) (ts : List Numbered) (i : ℕ) → AreKnown bytes_of slab (with_run bytes_of ends ns xs ts) → AreKnown bytes_of slab (with_run bytes_of to (take i ns) (take i xs) ts)
    unfolding with_run
    known_front ends to ns xs ts zero known = known_base ends ns xs ts known
    known_front ends to [] xs ts (suc i) known = known
    known_front ends to (n ∷ ns) [] ts (suc i) known = known
    known_front ends to (n ∷ ns) (x ∷ xs) ts (suc i) known =
        let t = timer_of ends n x in
        let others = with_run bytes_of ends ns xs ts in
        known_more (timer_of to n x) (with_run bytes_of to (take i ns) (take i xs) ts) (known_this t others known) (known_front ends to ns xs ts i (known_that t others known))

    pub known_key : (ends : ℕ) (ns : List ℕ) (xs : List (Held A)) (ts : List Numbered) (i n : ℕ) (x : Held A) → AreKnown bytes_of slab (with_run bytes_of ends ns xs ts) → i < length ns → i < length xs → n ≡ get_or ns i n → x ≡ get_or xs i x → key_of bytes_of slab n ≡ Some (key_seen bytes_of x.key)
    unfolding with_run
    known_key ends [] xs ts i n x known w v en ex = absurd (omega (arith, w))
    known_key ends (m ∷ ns) [] ts i n x known w v en ex = absurd (omega (arith, v))
    known_key ends (m ∷ ns) (y ∷ xs) ts zero n x known w v en ex =
        subst (λ (k : ℕ). key_of bytes_of slab k ≡ Some (key_seen bytes_of x.key)) (sym en)
        (known_this (timer_of ends m y) (with_run bytes_of ends ns xs ts) known ∙ ap (λ (h : Held A). Some (key_seen bytes_of h.key)) (sym ex))
    known_key ends (m ∷ ns) (y ∷ xs) ts (suc i) n x known w v en ex =
        known_key ends ns xs ts i n x (known_that (timer_of ends m y) (with_run bytes_of ends ns xs ts) known) (omega (arith, w)) (omega (arith, v)) en ex

    -- ---- taken out

    run_out : (ends : ℕ) (ns : List ℕ) (xs : List (Held A)) (ts all : List Numbered) (a : ℕ) → length xs ≡ length ns → AreKnown bytes_of slab all → all ≡ with_run bytes_of ends ns xs ts → a + length ns ≤ length all →
        ((j d : ℕ) (e : Numbered) → j < length ns → alarm_of (get_or all (a + j) e) ≡ record { ends_at = ends; number = get_or ns j d }) → cut all a (length ns) ≡ ts
    unfolding with_run
    run_out ends [] xs ts all a long known is within here = cut_none all a ∙ is
    run_out ends (n ∷ ns) [] ts all a long known is within here = absurd (omega (arith, long))
    run_out ends (n ∷ ns) (x ∷ xs) ts all a long known is within here =
        let this = timer_of ends n x in
        let others = with_run bytes_of ends ns xs ts in
        let known_all : AreKnown bytes_of slab (placed alarm_cmp this others) = subst (AreKnown bytes_of slab) is known in
        let key : HasKey this = known_this this others known_all in
        let first : a + 0 ≡ a = omega arith in
        let inside : a < length all = omega (arith, within) in
        let at_a : (d : Numbered) → get_or all a d ≡ this = λ d.
        let e : alarm_of (get_or all a d) ≡ record { ends_at = ends; number = n } = subst (λ (k : ℕ). alarm_of (get_or all k d) ≡ record { ends_at = ends; number = n }) first (here 0 n d (omega arith)) in
        let own = one_of HasKey all a d inside known.keys in
        is_timer (get_or all a d) this e own key in
        let gone : remove all a ≡ others =
        remove_is alarm_cmp alarm_total same_alarm this all a inside known.order at_a
        ∙ ap (without alarm_cmp this) is
        ∙ without_placed alarm_cmp alarm_total same_alarm this others in
        let shorter = ap length gone in
        let fewer = length-remove all a inside in
        let rest = run_out ends ns xs ts others a (omega (arith, long)) (known_that this others known_all) refl (omega (arith, within, shorter, fewer))
        (λ j d e w.
        let next : a + suc j ≡ a + j + 1 = omega arith in
        ap (λ (ys : List Numbered). alarm_of (get_or ys (a + j) e)) (sym gone)
        ∙ ap alarm_of (get_or-remove_above all a e (a + j) (omega arith) inside)
        ∙ ap (λ (k : ℕ). alarm_of (get_or all k e)) (sym next)
        ∙ here (suc j) d e (omega (arith, w))) in
        sym (cut_next all a (length ns) inside) ∙ ap (λ (ys : List Numbered). cut ys a (length ns)) gone ∙ rest
      where
        is_timer : (t this : Numbered) → alarm_of t ≡ alarm_of this → HasKey t → HasKey this → t ≡ this
        is_timer t this e own key =
            let ends = ap (λ (l : Alarm). l.ends_at) e in
            let number = ap (λ (l : Alarm). l.number) e in
            let keys : t.key ≡ this.key = some_same t.key this.key (sym own ∙ ap (key_of bytes_of slab) number ∙ key) in
            λ i. record { ends_at = ends i; key = keys i; number = number i }
          where
            some_same : (k l : Key (List ℕ)) → ◌≡◌ {A = Option (Key (List ℕ))} (Some k) (Some l) → k ≡ l
            some_same k l f = cc

    -- the alarms as the list has them
    pub taken_out : (ends : ℕ) (ns : List ℕ) (xs : List (Held A)) (ts : List Numbered) (alarms new : List Alarm) (a n : ℕ) → n ≡ length ns → length xs ≡ n → AreKnown bytes_of slab (with_run bytes_of ends ns xs ts) → alarms ≡ map alarm_of (with_run bytes_of ends ns xs ts) → a + n ≤ length alarms →
        ((j d : ℕ) (e : Alarm) → j < n → get_or alarms (a + j) e ≡ record { ends_at = ends; number = get_or ns j d }) → new ≡ cut alarms a n → new ≡ map alarm_of ts
    taken_out ends ns xs ts alarms new a n many long known kept within here out =
        let all = with_run bytes_of ends ns xs ts in
        let count = ap length kept ∙ length-map all alarm_of in
        let rest = run_out ends ns xs ts all a (long ∙ many) known refl (omega (arith, within, many, count))
        (λ j d e w.
        sym (get_or-map alarm_of all (a + j) e (alarm_of e) (omega (arith, within, many, count, w)))
        ∙ ap (λ (ys : List Alarm). get_or ys (a + j) (alarm_of e)) (sym kept)
        ∙ here j d (alarm_of e) (omega (arith, w, many))) in
        out ∙ ap (cut alarms a) many ∙ ap (λ (ys : List Alarm). cut ys a (length ns)) kept ∙ map_cut alarm_of all a (length ns) ∙ ap (map alarm_of) rest

    pub none_there : (ends : ℕ) (ns : List ℕ) (xs : List (Held A)) (ts : List Numbered) (i n : ℕ) → i < length ns → length xs ≡ length ns → n ≡ get_or ns i n → get slab n ≡ None → AreKnown bytes_of slab (with_run bytes_of ends ns xs ts) → ⊥
    none_there ends ns [] ts i n w long at_i gone known = omega (arith, w, long)
    none_there ends ns (e ∷ xs) ts i n w long at_i gone known =
        let all = e ∷ xs in
        let x = get_or all i e in
        let here : x ≡ get_or all i x = same_default all i e x (omega (arith, w, long)) in
        never (key_seen bytes_of x.key) (sym (ap (option_map (λ (h : Held A). key_seen bytes_of h.key)) gone) ∙ known_key ends ns all ts i n x known w (omega (arith, w, long)) at_i here)
      where
        never : (k : Key (List ℕ)) → ◌≡◌ {A = Option (Key (List ℕ))} None (Some k) → ⊥
        never k f = cc

-- ---- the alarms that a block lends

pub row_within : (row xs : List Alarm) (a n : ℕ) → row ≡ take (length row) (drop a xs) → n ≤ length row → a ≤ length xs → a + n ≤ length xs
row_within row xs a n is few w =
    let m = length row in
    let ys = drop a xs in
    let parts = ap length (take-append-drop m ys) in
    omega (arith, ap length is, parts, length-append (take m ys) (drop m ys), length-drop a xs, few, w)

pub read_run : (row xs : List Alarm) (a n ends : ℕ) (ns : List ℕ) → row ≡ take (length row) (drop a xs) → n ≤ length row → ((i d : ℕ) (e : Alarm) → i < n → get_or row i e ≡ record { ends_at = ends; number = get_or ns i d }) →
    (j d : ℕ) (e : Alarm) → j < n → get_or xs (a + j) e ≡ record { ends_at = ends; number = get_or (take n ns) j d }
read_run row xs a n ends ns is few same j d e w =
    let there : get_or row j e ≡ get_or xs (a + j) e =
    ap (λ (ys : List Alarm). get_or ys j e) is ∙ get_or-take (length row) (drop a xs) j e (omega (arith, w, few)) ∙ get_or-drop a xs j e in
    sym there ∙ same j d e w ∙ ap (λ (k : ℕ). record { ends_at = ends; number = k }) (sym (get_or-take n ns j d w))

pub cut_long : (xs : List Alarm) (a n : ℕ) → a + n ≤ length xs → length (cut xs a n) + n ≡ length xs
unfolding cut
cut_long xs a n w = omega (arith, length-append (take a xs) (drop (a + n) xs), length-take-le a xs (omega (arith, w)), length-drop (a + n) xs, w)
