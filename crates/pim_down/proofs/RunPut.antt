-- Timers of one end whose keys ascend, put in side by side.
use Rattle.pim_down.proofs.Words.{◌≡◌, ℕ, zero, suc, ◌+◌, ◌<◌, ◌≤◌, true, false, List, [], ◌∷◌, ◌++◌, Option, Some, option_map, map, length, take, drop, get_or, refl, sym, ap, ap₂, subst, ◌∙◌, arith, append_assoc, length-drop, length-append, Ordering, Less, Equal, Greater, insert, nat_cmp_is, nat_cmp, ordering_then, is_gt, is_lt, false≢true, nat_cmp_total, tied_itself, take_all, take-append-drop, take_at, drop_at, length-take-le, length-map, get_or-map, length-insert, get_or-insert_at, get_or-insert_above, Slab, get, spliced, Alarm, Held, Key, key_cmp, with_run, alarm_at, Ascend, placed, Numbered, alarm_cmp, alarm_of, alarm_seen, AreKnown, key_seen}
use Rattle.pim_down.specs.Schedule.{key_of}
use Rattle.pim_down.proofs.AlarmOrder.{alarm_total, same_alarm, one_of}
use Rattle.pim_down.proofs.AlarmRun.{timer_of, known_this, known_base, known_more, known_front}
use Rattle.pim_down.proofs.InOrder.{placed_swap, insert_is}
use Rattle.pim_down.proofs.Lists.{map_insert}

-- ---- lists

module _ {X : Type 0} where
  pub take_split : (i c : ℕ) (xs : List X) → take (i + c) xs ≡ take i xs ++ take c (drop i xs)
  take_split zero c xs = let e : zero + c ≡ c = omega arith in ap (λ k. take k xs) e
  take_split (suc i) c [] = let e : suc i + c ≡ suc (i + c) = omega arith in ap (λ k. take k []) e ∙ sym (take_all c [] (omega arith))
  take_split (suc i) c (x ∷ xs) = let e : suc i + c ≡ suc (i + c) = omega arith in ap (λ k. take k (x ∷ xs)) e ∙ ap (λ ys. x ∷ ys) (take_split i c xs)

  splice_none : (xs : List X) (at : ℕ) → spliced xs at [] ≡ xs
  unfolding spliced
  splice_none xs at = take-append-drop at xs

  splice_next : (xs : List X) (at : ℕ) (x : X) (run : List X) → at ≤ length xs → spliced xs at (x ∷ run) ≡ spliced (insert xs at x) (suc at) run
  unfolding spliced
  splice_next xs at x run w =
      let f = take at xs in
      let b = drop at xs in
      let front : length (f ++ x ∷ []) ≡ suc at = omega (arith, length_more f, length-take-le at xs w) in
      let parts : insert xs at x ≡ (f ++ x ∷ []) ++ b = sym (append_assoc f (x ∷ []) b) in
      sym (
      ap (λ (ys : List X). take (suc at) ys ++ (run ++ drop (suc at) ys)) parts
      ∙ ap₂ (λ p q. p ++ (run ++ q)) (take_at (f ++ x ∷ []) b (suc at) front) (drop_at (f ++ x ∷ []) b (suc at) front)
      ∙ append_assoc f (x ∷ []) (run ++ b)
      )
    where
      length_more : (ys : List X) → length (ys ++ x ∷ []) ≡ suc (length ys)
      length_more [] = refl
      length_more (y ∷ ys) = ap suc (length_more ys)

  pub length_spliced : (xs : List X) (at : ℕ) (run : List X) → at ≤ length xs → length (spliced xs at run) ≡ length xs + length run
  unfolding spliced
  length_spliced xs at run w =
      omega (arith, length-take-le at xs w, length-drop at xs, length-append (take at xs) (run ++ drop at xs), length-append run (drop at xs), w)

pub first_of : (ns first : List ℕ) → 0 < length ns → first ≡ take 1 ns → get_or first 0 0 ≡ get_or ns 0 (get_or first 0 0)
first_of [] first w is = absurd (omega (arith, w))
first_of (n ∷ ns) first w is = ap (λ ys. get_or ys 0 0) is

-- ---- keys that ascend

module _ {A : Type 0} (bytes_of : A → List ℕ) (slab : Slab (Held A)) where
  pub ascend_more : (n : ℕ) (key : Key (List ℕ)) (held : Held A) (i m : ℕ) (ns : List ℕ) → i < length ns → m ≡ get_or ns i m → get slab m ≡ Some held → key_cmp key (key_seen bytes_of held.key) ≡ Less → Ascend bytes_of slab n (key_seen bytes_of held.key) (drop (suc i) ns) → Ascend bytes_of slab (suc n) key (drop i ns)
  unfolding Ascend
  ascend_more n key held i m [] w at found less more = absurd (omega (arith, w))
  ascend_more n key held zero m (k ∷ ns) w at found less more =
      (key_seen bytes_of held.key, ap (key_of bytes_of slab) (sym at) ∙ ap (option_map (λ (h : Held A). key_seen bytes_of h.key)) found, less, more)
  ascend_more n key held (suc i) m (k ∷ ns) w at found less more = ascend_more n key held i m ns (omega (arith, w)) at found less more

  pub ascend_none : (key : Key (List ℕ)) (ns : List ℕ) → Ascend bytes_of slab 0 key ns
  unfolding Ascend
  ascend_none key ns = tt

  pub ascend_so_far : (i : ℕ) (key last : Key (List ℕ)) (ns : List ℕ) → ((n : ℕ) → Ascend bytes_of slab n last (drop i ns) → Ascend bytes_of slab (i + n) key ns) → Ascend bytes_of slab i key ns
  ascend_so_far i key last ns all =
      let same : i + 0 ≡ i = omega arith in
      subst (λ (k : ℕ). Ascend bytes_of slab k key ns) same (all 0 (ascend_none last (drop i ns)))

pub lt_is : (r : Ordering) → is_lt r ≡ true → r ≡ Less
lt_is Less e = refl
lt_is Equal e = absurd (false≢true e)
lt_is Greater e = absurd (false≢true e)

-- ---- the alarms, one by one

pub row_is : (to count : ℕ) (ns front : List ℕ) (row slice : List Alarm) → count ≤ length ns → front ≡ take count ns → take (length front) row ≡ map (alarm_at to) front → slice ≡ take count row → slice ≡ map (alarm_at to) (take count ns)
row_is to count ns front row slice w is written part =
    let long : length front ≡ count = ap length is ∙ length-take-le count ns w in
    part ∙ ap (λ k. take k row) (sym long) ∙ written ∙ ap (map (alarm_at to)) is

-- ---- a run over others

module _ {A : Type 0} (bytes_of : A → List ℕ) where
  run_its : (to : ℕ) (ms : List ℕ) (ys : List (Held A)) (t : Numbered) (ts : List Numbered) → with_run bytes_of to ms ys (placed alarm_cmp t ts) ≡ placed alarm_cmp t (with_run bytes_of to ms ys ts)
  unfolding with_run
  run_its to [] ys t ts = refl
  run_its to (m ∷ ms) [] t ts = refl
  run_its to (m ∷ ms) (y ∷ ys) t ts =
      ap (placed alarm_cmp (timer_of bytes_of to m y)) (run_its to ms ys t ts)
      ∙ placed_swap alarm_cmp alarm_total same_alarm (timer_of bytes_of to m y) t (with_run bytes_of to ms ys ts)

  pub run_over : (to : ℕ) (ns ms : List ℕ) (xs ys : List (Held A)) (ts : List Numbered) → length ns ≡ length xs → with_run bytes_of to ms ys (with_run bytes_of to ns xs ts) ≡ with_run bytes_of to (ns ++ ms) (xs ++ ys) ts
  unfolding with_run
  run_over to [] ms [] ys ts long = refl
  run_over to [] ms (x ∷ xs) ys ts long = absurd (omega (arith, long))
  run_over to (n ∷ ns) ms [] ys ts long = absurd (omega (arith, long))
  run_over to (n ∷ ns) ms (x ∷ xs) ys ts long =
      run_its to ms ys (timer_of bytes_of to n x) (with_run bytes_of to ns xs ts)
      ∙ ap (placed alarm_cmp (timer_of bytes_of to n x)) (run_over to ns ms xs ys ts (omega (arith, long)))

  -- ---- side by side

  earlier_end : (a b : Numbered) → a.ends_at < b.ends_at → is_gt (alarm_cmp a b) ≡ false
  unfolding alarm_cmp
  earlier_end a b w =
      let less : nat_cmp a.ends_at b.ends_at ≡ Less = nat_less a.ends_at b.ends_at w in
      ap (λ o. is_gt (ordering_then (ordering_then o (key_cmp a.key b.key)) (nat_cmp a.number b.number))) less
    where
      nat_less : (m n : ℕ) → m < n → nat_cmp m n ≡ Less
      nat_less m n w = sym (nat_cmp_is m n Less w)

  lesser_key : (to m n : ℕ) (k l : Key (List ℕ)) → key_cmp k l ≡ Less → is_gt (alarm_cmp (record { ends_at = to; key = k; number = m }) (record { ends_at = to; key = l; number = n })) ≡ false
  unfolding alarm_cmp
  lesser_key to m n k l less =
      ap (λ o. is_gt (ordering_then (ordering_then o (key_cmp k l)) (nat_cmp m n))) (tied_itself nat_cmp_total to)
      ∙ ap (λ o. is_gt (ordering_then (ordering_then Equal o) (nat_cmp m n))) less

  some_same : (k l : Key (List ℕ)) → ◌≡◌ {A = Option (Key (List ℕ))} (Some k) (Some l) → k ≡ l
  some_same k l f = cc

  module _ (slab : Slab (Held A)) (to : ℕ) where
    pub chain : (c : ℕ) (key : Key (List ℕ)) (m k : ℕ) (ns : List ℕ) (xs : List (Held A)) (ts : List Numbered) → Ascend bytes_of slab c key ns → length xs ≡ length ns → AreKnown bytes_of slab (with_run bytes_of to ns xs ts) → k < length ts →
        ((d : Numbered) → get_or ts k d ≡ record { ends_at = to; key = key; number = m }) → ((d : Numbered) → suc k < length ts → to < (get_or ts (suc k) d).ends_at) →
        spliced (map alarm_of ts) (suc k) (map (alarm_at to) (take c ns)) ≡ map alarm_of (with_run bytes_of to (take c ns) (take c xs) ts)
    unfolding Ascend with_run
    chain zero key m k ns xs ts asc long known w here later = splice_none (map alarm_of ts) (suc k)
    chain (suc c) key m k [] xs ts asc long known w here later = absurd (false≢true (sym asc))
    chain (suc c) key m k (n ∷ ns) [] ts asc long known w here later = absurd (omega (arith, long))
    chain (suc c) key m k (n ∷ ns) (x ∷ xs) ts asc long known w here later =
        let t = timer_of bytes_of to n x in
        let rest = with_run bytes_of to ns xs ts in
        let next : asc.0 ≡ key_seen bytes_of x.key = some_same asc.0 (key_seen bytes_of x.key) (sym asc.1 ∙ known_this bytes_of slab t rest known) in
        let less : key_cmp key (key_seen bytes_of x.key) ≡ Less = ap (key_cmp key) (sym next) ∙ asc.2 in
        let order = (known_base bytes_of slab to (n ∷ ns) (x ∷ xs) ts known).order in
        let is : insert ts (suc k) t ≡ placed alarm_cmp t ts =
        insert_is alarm_cmp alarm_total same_alarm t ts (suc k) w order
        (λ j d e. let one : k ≡ j = omega (arith, e) in
        subst (λ (i : ℕ). is_gt (alarm_cmp (get_or ts i d) t) ≡ false) one
        (subst (λ (s : Numbered). is_gt (alarm_cmp s t) ≡ false) (sym (here d)) (lesser_key to m n key (key_seen bytes_of x.key) less)))
        (λ d v. earlier_end t (get_or ts (suc k) d) (later d v)) in
        let longer = ap length is in
        let more = length-insert ts (suc k) t w in
        let above : suc (suc k) ≡ suc k + 1 = omega arith in
        splice_next (map alarm_of ts) (suc k) (alarm_of t) (map (alarm_at to) (take c ns)) (omega (arith, w, length-map ts alarm_of))
        ∙ ap (λ ys. spliced ys (suc (suc k)) (map (alarm_at to) (take c ns))) (sym (map_insert alarm_of ts (suc k) t) ∙ ap (map alarm_of) is)
        ∙ chain c (key_seen bytes_of x.key) n (suc k) ns xs (placed alarm_cmp t ts)
        (subst (λ (l : Key (List ℕ)). Ascend bytes_of slab c l ns) next asc.3)
        (omega (arith, long))
        (subst (AreKnown bytes_of slab) (sym (run_its to ns xs t ts)) known)
        (omega (arith, w, longer, more))
        (λ d. ap (λ ys. get_or ys (suc k) d) (sym is) ∙ get_or-insert_at ts (suc k) t d w)
        (λ d v. subst (λ (s : Numbered). to < s.ends_at)
        (sym (ap (λ ys. get_or ys (suc (suc k)) d) (sym is) ∙ ap (λ i. get_or (insert ts (suc k) t) i d) above ∙ get_or-insert_above ts (suc k) t d (suc k) (omega arith) w))
        (later d (omega (arith, v, longer, more))))
        ∙ ap (map alarm_of) (run_its to (take c ns) (take c xs) t ts)

    -- the run stands behind a timer of this end
    pub put_run_after : (c m k at : ℕ) (key : Key (List ℕ)) (ns : List ℕ) (xs : List (Held A)) (ts : List Numbered) (old new row : List Alarm) → Ascend bytes_of slab c key ns → length xs ≡ length ns → AreKnown bytes_of slab (with_run bytes_of to ns xs ts) → old ≡ map alarm_of ts → k < length old → at ≡ k + 1 →
        ((d : Numbered) → get_or ts k d ≡ record { ends_at = to; key = key; number = m }) → ((d : Alarm) → at < length old → to < (get_or old at d).ends_at) → row ≡ map (alarm_at to) (take c ns) → new ≡ spliced old at row → new ≡ map alarm_of (with_run bytes_of to (take c ns) (take c xs) ts)
    put_run_after c m k at key ns xs ts old new row asc long known kept w next here later is put =
        let count = ap length kept ∙ length-map ts alarm_of in
        let behind : at ≡ suc k = omega (arith, next) in
        put
        ∙ (λ i. spliced (kept i) (behind i) (is i))
        ∙ chain c key m k ns xs ts asc long known (omega (arith, w, count)) here
        (λ d v. subst (λ (a : Alarm). to < a.ends_at)
        ((λ i. get_or (kept i) (behind i) (alarm_of d)) ∙ get_or-map alarm_of ts (suc k) d (alarm_of d) v)
        (later (alarm_of d) (omega (arith, v, count, behind))))

    one_timer : (t this : Numbered) → alarm_of t ≡ alarm_of this → key_of bytes_of slab t.number ≡ Some t.key → key_of bytes_of slab this.number ≡ Some this.key → t ≡ this
    one_timer t this e own key =
        let ends = ap (λ (l : Alarm). l.ends_at) e in
        let number = ap (λ (l : Alarm). l.number) e in
        let keys : t.key ≡ this.key = some_same t.key this.key (sym own ∙ ap (key_of bytes_of slab) number ∙ key) in
        λ i. record { ends_at = ends i; key = keys i; number = number i }

    -- where a timer was put in, it stands
    stands_there : (t : Numbered) (ts : List Numbered) (old : List Alarm) (i : ℕ) → AreKnown bytes_of slab (placed alarm_cmp t ts) → i ≤ length old → insert old i (alarm_of t) ≡ map alarm_of (placed alarm_cmp t ts) → (d : Numbered) → get_or (placed alarm_cmp t ts) i d ≡ t
    stands_there t ts old i known w is d =
        let all = placed alarm_cmp t ts in
        let count = ap length is ∙ length-map all alarm_of in
        let within : i < length all = omega (arith, w, count, length-insert old i (alarm_of t) w) in
        let alarm : alarm_of (get_or all i d) ≡ alarm_of t =
        sym (get_or-map alarm_of all i d (alarm_of d) within) ∙ ap (λ ys. get_or ys i (alarm_of d)) (sym is) ∙ get_or-insert_at old i (alarm_of t) (alarm_of d) w in
        one_timer (get_or all i d) t alarm
        (one_of (λ (s : Numbered). key_of bytes_of slab s.number ≡ Some s.key) all i d within known.keys)
        (known_this bytes_of slab t ts known)

    pub front_put : (c n i : ℕ) (held : Held A) (ns : List ℕ) (xs : List (Held A)) (ts : List Numbered) (old mid new : List Alarm) → 0 < length ns → n ≡ get_or ns 0 n → get slab n ≡ Some held → length xs ≡ length ns → AreKnown bytes_of slab (with_run bytes_of to ns xs ts) → old ≡ map alarm_of ts → i ≤ length old → mid ≡ insert old i (alarm_at to n) →
        ((all : List Numbered) → AreKnown bytes_of slab all → old ≡ map alarm_of all → insert old i (alarm_at to n) ≡ map alarm_of (placed alarm_cmp (alarm_seen bytes_of held.key (alarm_at to n)) all)) →
        ((m : ℕ) (run : List (Held A)) (timers : List Numbered) → length run ≡ length (drop 1 ns) → AreKnown bytes_of slab (with_run bytes_of to (drop 1 ns) run timers) → mid ≡ map alarm_of timers → ((d : Numbered) → get_or timers i d ≡ record { ends_at = to; key = key_seen bytes_of held.key; number = m }) → new ≡ map alarm_of (with_run bytes_of to (take c (drop 1 ns)) (take c run) timers)) →
        new ≡ map alarm_of (with_run bytes_of to (take (1 + c) ns) (take (1 + c) xs) ts)
    unfolding with_run
    front_put c n i held [] xs ts old mid new some at found long known kept w put slot behind = absurd (omega (arith, some))
    front_put c n i held (k ∷ ns) [] ts old mid new some at found long known kept w put slot behind = absurd (omega (arith, long))
    front_put c n i held (k ∷ ns) (x ∷ xs) ts old mid new some at found long known kept w put slot behind =
        let t = timer_of bytes_of to k x in
        let u : Numbered = alarm_seen bytes_of held.key (alarm_at to n) in
        let rest = with_run bytes_of to ns xs ts in
        let own = known_this bytes_of slab t rest known in
        let key : key_seen bytes_of held.key ≡ key_seen bytes_of x.key =
        some_same (key_seen bytes_of held.key) (key_seen bytes_of x.key) (sym (ap (option_map (λ (h : Held A). key_seen bytes_of h.key)) found) ∙ ap (key_of bytes_of slab) at ∙ own) in
        let same : u ≡ t = λ j. timer_is (key j) (at j) in
        let known_ts = known_base bytes_of slab to (k ∷ ns) (x ∷ xs) ts known in
        let known_u : AreKnown bytes_of slab (placed alarm_cmp u ts) = subst (λ (s : Numbered). AreKnown bytes_of slab (placed alarm_cmp s ts)) (sym same) (known_more bytes_of slab t ts own known_ts) in
        let slotted = slot ts known_ts kept in
        let known_rest = subst (AreKnown bytes_of slab) (sym (run_its to ns xs u ts ∙ ap (λ (s : Numbered). placed alarm_cmp s rest) same)) known in
        let more : 1 + c ≡ suc c = omega arith in
        behind n xs (placed alarm_cmp u ts) (omega (arith, long)) known_rest (put ∙ slotted) (stands_there u ts old i known_u w slotted)
        ∙ ap (map alarm_of) (run_its to (take c ns) (take c xs) u ts ∙ ap (λ (s : Numbered). placed alarm_cmp s (with_run bytes_of to (take c ns) (take c xs) ts)) same)
        ∙ ap (λ j. map alarm_of (with_run bytes_of to (take j (k ∷ ns)) (take j (x ∷ xs)) ts)) (sym more)
      where
        timer_is : Key (List ℕ) → ℕ → Numbered
        timer_is l m = record { ends_at = to; key = l; number = m }

    pub runs_on : (ends i c : ℕ) (ns : List ℕ) (xs : List (Held A)) (ts : List Numbered) (old new : List Alarm) → i ≤ length ns → length xs ≡ length ns → AreKnown bytes_of slab (with_run bytes_of ends ns xs ts) → old ≡ map alarm_of (with_run bytes_of to (take i ns) (take i xs) ts) →
        ((run : List (Held A)) (timers : List Numbered) → length run ≡ length (drop i ns) → AreKnown bytes_of slab (with_run bytes_of to (drop i ns) run timers) → old ≡ map alarm_of timers → new ≡ map alarm_of (with_run bytes_of to (take c (drop i ns)) (take c run) timers)) →
        new ≡ map alarm_of (with_run bytes_of to (take (i + c) ns) (take (i + c) xs) ts)
    runs_on ends i c ns xs ts old new w long known kept front =
        let fronts : length (take i ns) ≡ length (take i xs) = length-take-le i ns w ∙ sym (length-take-le i xs (omega (arith, w, long))) in
        let whole : with_run bytes_of to (drop i ns) (drop i xs) (with_run bytes_of to (take i ns) (take i xs) ts) ≡ with_run bytes_of to ns xs ts =
        run_over to (take i ns) (drop i ns) (take i xs) (drop i xs) ts fronts ∙ (λ k. with_run bytes_of to (take-append-drop i ns k) (take-append-drop i xs k) ts) in
        let known_all : AreKnown bytes_of slab (with_run bytes_of to ns xs ts) =
        subst (AreKnown bytes_of slab) (λ k. with_run bytes_of to (take_all (length ns) ns (omega arith) k) (take_all (length ns) xs (omega (arith, long)) k) ts)
        (known_front bytes_of slab ends to ns xs ts (length ns) known) in
        front (drop i xs) (with_run bytes_of to (take i ns) (take i xs) ts) (omega (arith, length-drop i xs, length-drop i ns, long)) (subst (AreKnown bytes_of slab) (sym whole) known_all) kept
        ∙ ap (map alarm_of) (run_over to (take i ns) (take c (drop i ns)) (take i xs) (take c (drop i xs)) ts fronts ∙ (λ k. with_run bytes_of to (sym (take_split i c ns) k) (sym (take_split i c xs) k) ts))
