-- Records side by side whose Expiry Timers are put off, and the timers of these records.
use Rattle.pim_down.proofs.Words.{◌≡◌, ℕ, zero, suc, ◌+◌, ◌<◌, ◌≤◌, List, [], ◌∷◌, ◌++◌, Some, map, length, take, drop, get_or, set, refl, sym, ap, subst, ◌∙◌, arith, add-one, length-append, All, AllByRecursion, drop-drop, take-append-drop, length-take-le, length-map, recursion_from_All, Slab, get, Alarm, TimerKind, PendingTimer, ExpiryTimer, Held, put_off, put_off_from, with_run, Numbered, alarm_of, end_of, with_alarm, with_its, numbered, AreKnown, timed_seen, key_seen, append_assoc, length-drop}
use Rattle.pim_down.proofs.Numbered.{timers, alarm_swap, known_timers}

-- ---- lists

module _ {X : Type 0} where
  pub in_parts : (xs : List X) (i n : ℕ) → take i xs ++ (take n (drop i xs) ++ drop (i + n) xs) ≡ xs
  in_parts xs i n =
      ap (λ ys. take i xs ++ (take n (drop i xs) ++ ys)) (sym (drop-drop n i xs))
      ∙ ap (λ ys. take i xs ++ ys) (take-append-drop n (drop i xs))
      ∙ take-append-drop i xs

module _ {A : Type 0} where
  -- where the others begin, as a number of its own
  moved : ℕ → ℕ → ℕ → ℕ → List (Held A) → List (Held A)
  moved i n end to items = take i items ++ map (put_off to) (take n (drop i items)) ++ drop end items

  is_moved : (i n to : ℕ) (items : List (Held A)) → put_off_from i n to items ≡ moved i n (i + n) to items
  unfolding put_off_from moved
  is_moved i n to items = refl

  moved_none : (i end to : ℕ) (items : List (Held A)) → end ≡ i → moved i 0 end to items ≡ items
  unfolding moved
  moved_none i end to items e = append_assoc (take i items) [] (drop end items) ∙ ap (λ k. take i items ++ drop k items) e ∙ take-append-drop i items

  moved_step : (i n end to : ℕ) (items : List (Held A)) (x : Held A) → i < length items → end ≡ suc (i + n) → x ≡ get_or items i x → moved (suc i) n end to (set items i (put_off to x)) ≡ moved i (suc n) end to items
  unfolding moved
  moved_step i n end to [] x w e here = absurd (omega (arith, w))
  moved_step i n zero to (y ∷ items) x w e here = absurd (omega (arith, e))
  moved_step zero n (suc end) to (y ∷ items) x w e here = ap (λ (h : Held A). put_off to h ∷ (map (put_off to) (take n items) ++ drop end items)) here
  moved_step (suc i) n (suc end) to (y ∷ items) x w e here = ap (λ ys. y ∷ ys) (moved_step i n end to items x (omega (arith, w)) (omega (arith, e)) here)

  pub put_off_none : (i to : ℕ) (items : List (Held A)) → put_off_from i 0 to items ≡ items
  put_off_none i to items = is_moved i 0 to items ∙ moved_none i (i + 0) to items (omega arith)

  pub put_off_next : (i n left to : ℕ) (items : List (Held A)) (x : Held A) → i < length items → left ≡ suc n → x ≡ get_or items i x → put_off_from (i + 1) n to (set items i (put_off to x)) ≡ put_off_from i left to items
  put_off_next i n left to items x w more here =
      let end : i + 1 + n ≡ suc (i + n) = omega arith in
      let same : suc (i + n) ≡ i + left = omega (arith, more) in
      let next = set items i (put_off to x) in
      is_moved (i + 1) n to next
      ∙ (λ k. moved (add-one i k) n (end k) to next)
      ∙ moved_step i n (suc (i + n)) to items x w refl here
      ∙ (λ k. moved i (sym more k) (same k) to items)
      ∙ sym (is_moved i left to items)

  pub length_put_off : (i n to : ℕ) (items : List (Held A)) → i + n ≤ length items → length (put_off_from i n to items) ≡ length items
  unfolding put_off_from
  length_put_off i n to items w =
      let front = take i items in
      let run = take n (drop i items) in
      let off = map (put_off to) run in
      let rest = drop (i + n) items in
      omega (
        arith,
        length-append (front ++ off) rest,
        length-append front off,
        length-map run (put_off to),
        length-take-le i items (omega (arith, w)),
        length-take-le n (drop i items) (omega (arith, w, length-drop i items)),
        length-drop (i + n) items,
        w,
      )

-- ---- the timers of these records, over those of the others

module _ {A : Type 0} (bytes_of : A → List ℕ) where
  module _ (timer : TimerKind) where
    upon : List ℕ → List (Held A) → List Numbered → List Numbered
    upon [] xs ts = ts
    upon (n ∷ ns) [] ts = ts
    upon (n ∷ ns) (x ∷ xs) ts = with_its bytes_of timer x n (upon ns xs ts)

    upon_its : (ns : List ℕ) (xs : List (Held A)) (x : Held A) (n : ℕ) (ts : List Numbered) → upon ns xs (with_its bytes_of timer x n ts) ≡ with_its bytes_of timer x n (upon ns xs ts)
    unfolding upon
    upon_its [] xs x n ts = refl
    upon_its (m ∷ ns) [] x n ts = refl
    upon_its (m ∷ ns) (y ∷ xs) x n ts =
        ap (with_its bytes_of timer y m) (upon_its ns xs x n ts)
        ∙ alarm_swap (key_seen bytes_of y.key) (key_seen bytes_of x.key) m n (end_of timer (timed_seen y.machine)) (end_of timer (timed_seen x.machine)) (upon ns xs ts)

    upon_upon : (ns ms : List ℕ) (xs ys : List (Held A)) (ts : List Numbered) → upon ns xs (upon ms ys ts) ≡ upon ms ys (upon ns xs ts)
    unfolding upon
    upon_upon [] ms xs ys ts = refl
    upon_upon (n ∷ ns) ms [] ys ts = refl
    upon_upon (n ∷ ns) ms (x ∷ xs) ys ts = ap (with_its bytes_of timer x n) (upon_upon ns ms xs ys ts) ∙ sym (upon_its ms ys x n (upon ns xs ts))

    timers_parts : (ns ms : List ℕ) (xs ys : List (Held A)) → length ns ≡ length xs → timers bytes_of timer (ns ++ ms) (xs ++ ys) ≡ upon ns xs (timers bytes_of timer ms ys)
    unfolding upon numbered
    timers_parts [] ms [] ys long = refl
    timers_parts [] ms (x ∷ xs) ys long = absurd (omega (arith, long))
    timers_parts (n ∷ ns) ms [] ys long = absurd (omega (arith, long))
    timers_parts (n ∷ ns) ms (x ∷ xs) ys long = ap (with_its bytes_of timer x n) (timers_parts ns ms xs ys (omega (arith, long)))

    middle : (ks ns ms : List ℕ) (xs ys zs : List (Held A)) → length ks ≡ length xs → length ns ≡ length ys → timers bytes_of timer (ks ++ (ns ++ ms)) (xs ++ (ys ++ zs)) ≡ upon ns ys (upon ks xs (timers bytes_of timer ms zs))
    middle ks ns ms xs ys zs long long_too =
        timers_parts ks (ns ++ ms) xs (ys ++ zs) long ∙ ap (upon ks xs) (timers_parts ns ms ys zs long_too) ∙ upon_upon ks ns xs ys (timers bytes_of timer ms zs)

  ended : (from : ℕ) (ns : List ℕ) (xs : List (Held A)) (ts : List Numbered) → AllByRecursion (λ (h : Held A). h.machine.expires_at ≡ Some from) xs → upon ExpiryTimer ns xs ts ≡ with_run bytes_of from ns xs ts
  unfolding upon with_run
  ended from [] xs ts all = refl
  ended from (n ∷ ns) [] ts all = refl
  ended from (n ∷ ns) (x ∷ xs) ts all =
      ap (λ end. with_alarm (key_seen bytes_of x.key) n end (upon ExpiryTimer ns xs ts)) all.0 ∙ ap (with_alarm (key_seen bytes_of x.key) n (Some from)) (ended from ns xs ts all.1)

  ended_later : (to : ℕ) (ns : List ℕ) (xs : List (Held A)) (ts : List Numbered) → upon ExpiryTimer ns (map (put_off to) xs) ts ≡ with_run bytes_of to ns xs ts
  unfolding upon with_run
  ended_later to [] xs ts = refl
  ended_later to (n ∷ ns) [] ts = refl
  ended_later to (n ∷ ns) (x ∷ xs) ts = ap (with_alarm (key_seen bytes_of x.key) n (Some to)) (ended_later to ns xs ts)

  same_prunes : (to : ℕ) (ns : List ℕ) (xs : List (Held A)) (ts : List Numbered) → upon PendingTimer ns (map (put_off to) xs) ts ≡ upon PendingTimer ns xs ts
  unfolding upon
  same_prunes to [] xs ts = refl
  same_prunes to (n ∷ ns) [] ts = refl
  same_prunes to (n ∷ ns) (x ∷ xs) ts = ap (with_its bytes_of PendingTimer x n) (same_prunes to ns xs ts)

  -- ---- the timers before and after

  module _ (ns : List ℕ) (items : List (Held A)) (i n : ℕ) (count : length ns ≡ length items) (w : i + n ≤ length items) where
    abbrev firsts : List ℕ
    firsts = take i ns

    abbrev mids : List ℕ
    mids = take n (drop i ns)

    abbrev run : List (Held A)
    run = take n (drop i items)

    abbrev others : TimerKind → List Numbered
    others timer = upon timer firsts (take i items) (timers bytes_of timer (drop (i + n) ns) (drop (i + n) items))

    front_long : length firsts ≡ length (take i items)
    front_long = length-take-le i ns (omega (arith, w, count)) ∙ sym (length-take-le i items (omega (arith, w)))

    pub run_long : length run ≡ n
    run_long = length-take-le n (drop i items) (omega (arith, w, length-drop i items))

    numbers_long : length mids ≡ n
    numbers_long = length-take-le n (drop i ns) (omega (arith, w, count, length-drop i ns))

    before : (timer : TimerKind) → timers bytes_of timer ns items ≡ upon timer mids run (others timer)
    before timer =
        (λ k. timers bytes_of timer (sym (in_parts ns i n) k) (sym (in_parts items i n) k))
        ∙ middle timer firsts mids (drop (i + n) ns) (take i items) run (drop (i + n) items) front_long (numbers_long ∙ sym run_long)

    after : (timer : TimerKind) (to : ℕ) → timers bytes_of timer ns (put_off_from i n to items) ≡ upon timer mids (map (put_off to) run) (others timer)
    unfolding put_off_from
    after timer to =
        let rest = drop (i + n) items in
        let off = map (put_off to) run in
        (λ k. timers bytes_of timer (sym (in_parts ns i n) k) (append_assoc (take i items) off rest k))
        ∙ middle timer firsts mids (drop (i + n) ns) (take i items) off rest front_long (numbers_long ∙ sym (length-map run (put_off to) ∙ run_long))

    pub prunes_stay : (to : ℕ) → timers bytes_of PendingTimer ns (put_off_from i n to items) ≡ timers bytes_of PendingTimer ns items
    prunes_stay to = after PendingTimer to ∙ same_prunes to mids run (others PendingTimer) ∙ sym (before PendingTimer)

    pub expiries_move : (slab : Slab (Held A)) → ((k d : ℕ) (e : Held A) → k < length ns → get slab (get_or ns k d) ≡ Some (get_or items k e)) → (from to : ℕ) (alarms new : List Alarm) → All (λ (h : Held A). h.machine.expires_at ≡ Some from) run →
        alarms ≡ map alarm_of (timers bytes_of ExpiryTimer ns items) →
        ((xs : List (Held A)) (ts : List Numbered) → length xs ≡ n → AreKnown bytes_of slab (with_run bytes_of from mids xs ts) → alarms ≡ map alarm_of (with_run bytes_of from mids xs ts) → new ≡ map alarm_of (with_run bytes_of to mids xs ts)) →
        new ≡ map alarm_of (timers bytes_of ExpiryTimer ns (put_off_from i n to items))
    expiries_move slab there from to alarms new all kept move =
        let ts = others ExpiryTimer in
        let ends = recursion_from_All (λ (h : Held A). h.machine.expires_at ≡ Some from) run all in
        let is = before ExpiryTimer ∙ ended from mids run ts ends in
        move run ts run_long (subst (AreKnown bytes_of slab) is (known_timers bytes_of ExpiryTimer slab ns items count there)) (kept ∙ ap (map alarm_of) is)
        ∙ ap (map alarm_of) (sym (after ExpiryTimer to ∙ ended_later to mids run ts))
