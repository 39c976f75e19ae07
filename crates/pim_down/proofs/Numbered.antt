-- The timers of one kind of records with numbers, while records come, go and change.
use Rattle.pim_down.proofs.Words.{◌≡◌, ℕ, zero, suc, ◌+◌, ◌-◌, ◌*◌, ◌<◌, ◌≤◌, List, [], ◌∷◌, Option, Some, None, option_map, map, length, get_or, set, refl, sym, ap, subst, ◌∙◌, arith, insert, remove, AllByRecursion, length-map, length-set, Slab, get, Listed, numbers, Alarm, TimerKind, PendingTimer, ExpiryTimer, Held, Timed, Key, IsInOrder, Numbered, alarm_cmp, alarm_of, end_of, with_alarm, with_its, numbered, AreKnown, AlarmList, IsTimed, timed_seen, key_seen, records_seen}
use Rattle.pim_down.proofs.InOrder.{placed_swap, order_placed, length_placed}
use Rattle.pim_down.proofs.AlarmOrder.{alarm_total, same_alarm, all_placed, known_rest}

-- ---- lists

module _ {X : Type 0} where
  pub at_insert : (xs : List X) (i : ℕ) (x d : X) → i ≤ length xs → get_or (insert xs i x) i d ≡ x
  at_insert [] zero x d w = refl
  at_insert [] (suc i) x d w = absurd (omega arith)
  at_insert (y ∷ xs) zero x d w = refl
  at_insert (y ∷ xs) (suc i) x d w = at_insert xs i x d (omega arith)

  pub remove_insert : (xs : List X) (i : ℕ) (x : X) → i ≤ length xs → remove (insert xs i x) i ≡ xs
  remove_insert [] zero x w = refl
  remove_insert [] (suc i) x w = absurd (omega arith)
  remove_insert (y ∷ xs) zero x w = refl
  remove_insert (y ∷ xs) (suc i) x w = ap (λ ys. y ∷ ys) (remove_insert xs i x (omega arith))

  pub at_set : (xs : List X) (i : ℕ) (x d : X) → i < length xs → get_or (set xs i x) i d ≡ x
  at_set [] i x d w = absurd (omega arith)
  at_set (y ∷ xs) zero x d w = refl
  at_set (y ∷ xs) (suc i) x d w = at_set xs i x d (omega arith)

  pub remove_set : (xs : List X) (i : ℕ) (x : X) → i < length xs → remove (set xs i x) i ≡ remove xs i
  remove_set [] i x w = absurd (omega arith)
  remove_set (y ∷ xs) zero x w = refl
  remove_set (y ∷ xs) (suc i) x w = ap (λ ys. y ∷ ys) (remove_set xs i x (omega arith))

-- ---- one more

pub alarm_swap : (k l : Key (List ℕ)) (m n : ℕ) (a b : Option ℕ) (ts : List Numbered) → with_alarm k m a (with_alarm l n b ts) ≡ with_alarm l n b (with_alarm k m a ts)
alarm_swap k l m n None b ts = refl
alarm_swap k l m n (Some a) None ts = refl
alarm_swap k l m n (Some a) (Some b) ts = placed_swap alarm_cmp alarm_total same_alarm (record { ends_at = a; key = k; number = m }) (record { ends_at = b; key = l; number = n }) ts

order_alarm : (k : Key (List ℕ)) (n : ℕ) (a : Option ℕ) (ts : List Numbered) → IsInOrder alarm_cmp ts → IsInOrder alarm_cmp (with_alarm k n a ts)
order_alarm k n None ts order = order
order_alarm k n (Some a) ts order = order_placed alarm_cmp alarm_total same_alarm (record { ends_at = a; key = k; number = n }) ts order

length_alarm : (k : Key (List ℕ)) (n : ℕ) (a : Option ℕ) (ts : List Numbered) → length (with_alarm k n a ts) ≤ suc (length ts)
length_alarm k n None ts = omega arith
length_alarm k n (Some a) ts = omega (arith, length_placed alarm_cmp alarm_total same_alarm (record { ends_at = a; key = k; number = n }) ts)

module _ (P : Numbered → Type 0) where
  all_alarm : (k : Key (List ℕ)) (n : ℕ) (end : Option ℕ) (ts : List Numbered) → ((a : ℕ) → P (record { ends_at = a; key = k; number = n })) → AllByRecursion P ts → AllByRecursion P (with_alarm k n end ts)
  all_alarm k n None ts p all = all
  all_alarm k n (Some a) ts p all = all_placed P (record { ends_at = a; key = k; number = n }) ts (p a) all

-- ---- all records

module _ {A : Type 0} (bytes_of : A → List ℕ) (timer : TimerKind) where
  abbrev pub timers : List ℕ → List (Held A) → List Numbered
  timers ns items = numbered timer ns (records_seen bytes_of items)

  pub order_timers : (ns : List ℕ) (items : List (Held A)) → IsInOrder alarm_cmp (timers ns items)
  unfolding numbered IsInOrder
  order_timers [] items = tt
  order_timers (n ∷ ns) [] = tt
  order_timers (n ∷ ns) (x ∷ items) = order_alarm (key_seen bytes_of x.key) n (end_of timer (timed_seen x.machine)) (timers ns items) (order_timers ns items)

  pub length_timers : (ns : List ℕ) (items : List (Held A)) → length (timers ns items) ≤ length items
  unfolding numbered
  length_timers [] items = omega arith
  length_timers (n ∷ ns) [] = omega arith
  length_timers (n ∷ ns) (x ∷ items) = omega (arith, length_timers ns items, length_alarm (key_seen bytes_of x.key) n (end_of timer (timed_seen x.machine)) (timers ns items))

  keys_timers : (slots : ℕ → Option (Held A)) (ns : List ℕ) (items : List (Held A)) → length ns ≡ length items → ((i d : ℕ) (e : Held A) → i < length ns → slots (get_or ns i d) ≡ Some (get_or items i e)) →
      AllByRecursion (λ (t : Numbered). option_map (λ (h : Held A). key_seen bytes_of h.key) (slots t.number) ≡ Some t.key) (timers ns items)
  unfolding numbered
  keys_timers slots [] items count here = tt
  keys_timers slots (n ∷ ns) [] count here = tt
  keys_timers slots (n ∷ ns) (x ∷ items) count here =
      all_alarm (λ (t : Numbered). option_map (λ (h : Held A). key_seen bytes_of h.key) (slots t.number) ≡ Some t.key) (key_seen bytes_of x.key) n (end_of timer (timed_seen x.machine)) (timers ns items)
      (λ a. ap (option_map (λ (h : Held A). key_seen bytes_of h.key)) (here 0 n x (omega arith)))
      (keys_timers slots ns items (omega (arith, count)) (λ i d e w. here (suc i) d e (omega (arith, w))))

  -- the slab has the keys of all timers
  pub known_timers : (slab : Slab (Held A)) (ns : List ℕ) (items : List (Held A)) → length ns ≡ length items → ((i d : ℕ) (e : Held A) → i < length ns → get slab (get_or ns i d) ≡ Some (get_or items i e)) → AreKnown bytes_of slab (timers ns items)
  known_timers slab ns items count here = record {
    keys = keys_timers (get slab) ns items count here;
    order = order_timers ns items;
  }

  -- the timer of the record at an index, and those of the others
  pub timers_remove : (ns : List ℕ) (items : List (Held A)) (i n : ℕ) (d : Held A) → i < length ns → i < length items → timers ns items ≡ with_its bytes_of timer (get_or items i d) (get_or ns i n) (timers (remove ns i) (remove items i))
  unfolding numbered
  timers_remove [] items i n d w v = absurd (omega arith)
  timers_remove (m ∷ ns) [] i n d w v = absurd (omega arith)
  timers_remove (m ∷ ns) (x ∷ items) zero n d w v = refl
  timers_remove (m ∷ ns) (x ∷ items) (suc i) n d w v =
      ap (with_its bytes_of timer x m) (timers_remove ns items i n d (omega arith) (omega arith))
      ∙ alarm_swap (key_seen bytes_of x.key) (key_seen bytes_of (get_or items i d).key) m (get_or ns i n) (end_of timer (timed_seen x.machine)) (end_of timer (timed_seen (get_or items i d).machine)) (timers (remove ns i) (remove items i))

  -- the same, by the record and its number
  split : (ns : List ℕ) (items : List (Held A)) (i n : ℕ) (held : Held A) → length ns ≡ length items → i < length items → n ≡ get_or ns i n → held ≡ get_or items i held → timers ns items ≡ with_its bytes_of timer held n (timers (remove ns i) (remove items i))
  split ns items i n held count w number here =
      timers_remove ns items i n held (omega (arith, count, w)) w ∙ (λ k. with_its bytes_of timer (sym here k) (sym number k) (timers (remove ns i) (remove items i)))

  -- ---- edits of records and of alarms

  module _ (slab : Slab (Held A)) (ns : List ℕ) (items : List (Held A)) (count : length ns ≡ length items) (there : (i d : ℕ) (e : Held A) → i < length ns → get slab (get_or ns i d) ≡ Some (get_or items i e)) (i n : ℕ) (held : Held A) (w : i < length items) (number : n ≡ get_or ns i n) (here : held ≡ get_or items i held) where
    abbrev others : List Numbered
    others = timers (remove ns i) (remove items i)

    known : AreKnown bytes_of slab (with_its bytes_of timer held n others)
    known = subst (AreKnown bytes_of slab) (split ns items i n held count w number here) (known_timers slab ns items count there)

    pub timers_in : (olds : List ℕ) (before : List (Held A)) (alarms new : List Alarm) → remove ns i ≡ olds → remove items i ≡ before → alarms ≡ map alarm_of (timers olds before) →
        ((ts : List Numbered) → AreKnown bytes_of slab ts → alarms ≡ map alarm_of ts → new ≡ map alarm_of (with_its bytes_of timer held n ts)) → new ≡ map alarm_of (timers ns items)
    timers_in olds before alarms new was_ns was_items kept put =
        put others (known_rest bytes_of slab (key_seen bytes_of held.key) n (end_of timer (timed_seen held.machine)) others known) (kept ∙ (λ k. map alarm_of (timers (sym was_ns k) (sym was_items k))))
        ∙ ap (map alarm_of) (sym (split ns items i n held count w number here))

    pub timers_out : (alarms new : List Alarm) (rest : List ℕ) (after : List (Held A)) → rest ≡ remove ns i → after ≡ remove items i → alarms ≡ map alarm_of (timers ns items) →
        ((ts : List Numbered) → AreKnown bytes_of slab (with_its bytes_of timer held n ts) → alarms ≡ map alarm_of (with_its bytes_of timer held n ts) → new ≡ map alarm_of ts) → new ≡ map alarm_of (timers rest after)
    timers_out alarms new rest after left_ns left_items kept taken =
        taken others known (kept ∙ ap (map alarm_of) (split ns items i n held count w number here)) ∙ (λ k. map alarm_of (timers (sym left_ns k) (sym left_items k)))

    pub timers_set : (alarms new : List Alarm) (machine : Timed) (same : List ℕ) (after : List (Held A)) → same ≡ ns → after ≡ set items i (record { key = held.key; machine = machine }) → alarms ≡ map alarm_of (timers ns items) →
        ((ts : List Numbered) → AreKnown bytes_of slab (with_its bytes_of timer held n ts) → alarms ≡ map alarm_of (with_its bytes_of timer held n ts) → new ≡ map alarm_of (with_its bytes_of timer (record { key = held.key; machine = machine }) n ts)) → new ≡ map alarm_of (timers same after)
    timers_set alarms new machine same after is_ns is_items kept changed =
        let one : Held A = record { key = held.key; machine = machine } in
        let now = set items i one in
        let long = length-set items i one in
        changed others known (kept ∙ ap (map alarm_of) (split ns items i n held count w number here))
        ∙ ap (map alarm_of) (ap (λ xs. with_its bytes_of timer one n (timers (remove ns i) xs)) (sym (remove_set items i one w)) ∙ sym (split ns now i n one (omega (arith, count, long)) (omega (arith, w, long)) number (sym (at_set items i one one w))))
        ∙ (λ k. map alarm_of (timers (sym is_ns k) (sym is_items k)))

-- ---- records with their schedule

module _ {A : Type 0} (bytes_of : A → List ℕ) where
  nothing : (timer : TimerKind) (ns : List ℕ) (items : List (Held A)) → items ≡ [] → timers bytes_of timer ns items ≡ []
  unfolding numbered
  nothing timer [] items e = refl
  nothing timer (n ∷ ns) [] e = refl
  nothing timer (n ∷ ns) (x ∷ items) e = absurd (omega (arith, ap length e))

  pub timed_none : (rows : Listed (Held A)) (pending expiry : AlarmList) → rows.items ≡ [] → pending.alarms ≡ [] → expiry.alarms ≡ [] → IsTimed bytes_of rows pending expiry 0
  timed_none rows pending expiry none no_pending no_expiry = record {
    prunes = no_pending ∙ sym (ap (map alarm_of) (nothing PendingTimer (numbers rows) rows.items none));
    expiries = no_expiry ∙ sym (ap (map alarm_of) (nothing ExpiryTimer (numbers rows) rows.items none));
    fits = omega (arith, ap length none);
    prune_room = omega arith;
    expiry_room = omega arith;
    small = omega arith;
  }

  module _ (rows : Listed (Held A)) (pending expiry : AlarmList) (space : ℕ) (timed : IsTimed bytes_of rows pending expiry space) where
    pub few_prunes : length pending.alarms ≤ length rows.items
    few_prunes = omega (arith, ap length timed.prunes, length-map (timers bytes_of PendingTimer (numbers rows) rows.items) alarm_of, length_timers bytes_of PendingTimer (numbers rows) rows.items)

    pub few_expiries : length expiry.alarms ≤ length rows.items
    few_expiries = omega (arith, ap length timed.expiries, length-map (timers bytes_of ExpiryTimer (numbers rows) rows.items) alarm_of, length_timers bytes_of ExpiryTimer (numbers rows) rows.items)

    -- room for one timer more
    pub room_for : length rows.items < space → (length pending.alarms < pending.capacity) × (length expiry.alarms < expiry.capacity)
    room_for less = (omega (arith, less, timed.prune_room, few_prunes), omega (arith, less, timed.expiry_room, few_expiries))

    pub room_among : (i : ℕ) → i < length rows.items → (length pending.alarms < pending.capacity) × (length expiry.alarms < expiry.capacity)
    room_among i w = (omega (arith, w, timed.fits, timed.prune_room, few_prunes), omega (arith, w, timed.fits, timed.expiry_room, few_expiries))

    -- more room, the same records and timers
    pub timed_same : (new : Listed (Held A)) (prunes expiries : AlarmList) → new.items ≡ rows.items → numbers new ≡ numbers rows → prunes.alarms ≡ pending.alarms → expiries.alarms ≡ expiry.alarms → pending.capacity ≤ prunes.capacity → expiry.capacity ≤ expiries.capacity → IsTimed bytes_of new prunes expiries space
    timed_same new prunes expiries items ns same_prunes same_expiries more_prunes more_expiries = record {
      prunes = same_prunes ∙ timed.prunes ∙ (λ k. map alarm_of (timers bytes_of PendingTimer (sym ns k) (sym items k)));
      expiries = same_expiries ∙ timed.expiries ∙ (λ k. map alarm_of (timers bytes_of ExpiryTimer (sym ns k) (sym items k)));
      fits = omega (arith, timed.fits, ap length items);
      prune_room = omega (arith, timed.prune_room, more_prunes);
      expiry_room = omega (arith, timed.expiry_room, more_expiries);
      small = timed.small;
    }

  -- room for more records
  pub timed_more : (rows : Listed (Held A)) (pending expiry : AlarmList) (space more : ℕ) → IsTimed bytes_of rows pending expiry space → length rows.items ≤ more → more ≤ pending.capacity - 1 → more ≤ expiry.capacity - 1 → 2 * more + 2 ≤ 18446744073709551615 → IsTimed bytes_of rows pending expiry more
  timed_more rows pending expiry space more timed fits prunes expiries small = record {
    prunes = timed.prunes;
    expiries = timed.expiries;
    fits = fits;
    prune_room = prunes;
    expiry_room = expiries;
    small = small;
  }
