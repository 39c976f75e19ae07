-- The timer that fires first is the lesser one of the first timers of both kinds.
use Rattle.pim_down.proofs.Words.{◌≡◌, ℕ, Bool, true, false, cond, List, [], ◌∷◌, Option, Some, None, option_map, map, length, ltb, refl, sym, ap, ◌∙◌, arith, Ordering, Less, Equal, Greater, nat_cmp, ordering_then, is_gt, slice_get, nat_cmp-IsAntisymmetric, nat_cmp_total, tied_itself, false≢true, Slab, get, Alarm, Deadline, Held, TimerKind, PendingTimer, ExpiryTimer, Key, Record, key_cmp, placed, timer_rank, deadline_cmp, end_of, with_end, timers_of, deadline_seen, Numbered, alarm_cmp, alarm_of, with_alarm, numbered, AreKnown, deadline_at, first_in, sooner_of, key_seen}
use Rattle.pim_down.proofs.Order.{equal_keys}
use Rattle.pim_down.proofs.InOrder.{le_other, le_trans, le_both}
use Rattle.pim_down.proofs.Deadlines.{deadline_total, same_deadline}

abbrev Timer : Type 0
Timer = Deadline (List ℕ)

-- ---- the lesser of two timers

unfoldable lesser : Timer → Timer → Timer
lesser x y = cond (is_gt (deadline_cmp x y)) y x

lesser_swap : (x y : Timer) → lesser x y ≡ lesser y x
unfolding lesser
lesser_swap x y = by (is_gt (deadline_cmp x y)) refl (is_gt (deadline_cmp y x)) refl
  where
    by : (a : Bool) → is_gt (deadline_cmp x y) ≡ a → (b : Bool) → is_gt (deadline_cmp y x) ≡ b → cond (is_gt (deadline_cmp x y)) y x ≡ cond (is_gt (deadline_cmp y x)) x y
    by true e true f = absurd (false≢true (sym (le_other deadline_cmp deadline_total same_deadline x y e) ∙ f))
    by true e false f = rw (e, f) refl
    by false e true f = rw (e, f) refl
    by false e false f = rw (e, f) (le_both deadline_cmp deadline_total same_deadline x y e f)

lesser_group : (x y z : Timer) → lesser (lesser x y) z ≡ lesser x (lesser y z)
unfolding lesser
lesser_group x y z = by (is_gt (deadline_cmp x y)) refl (is_gt (deadline_cmp y z)) refl (is_gt (deadline_cmp x z)) refl
  where
    by : (a : Bool) → is_gt (deadline_cmp x y) ≡ a → (b : Bool) → is_gt (deadline_cmp y z) ≡ b → (c : Bool) → is_gt (deadline_cmp x z) ≡ c →
        cond (is_gt (deadline_cmp (cond (is_gt (deadline_cmp x y)) y x) z)) z (cond (is_gt (deadline_cmp x y)) y x) ≡ cond (is_gt (deadline_cmp x (cond (is_gt (deadline_cmp y z)) z y))) (cond (is_gt (deadline_cmp y z)) z y) x
    by true e true f true h = rw (e, f) (rw h refl)
    by true e true f false h = absurd (false≢true (sym (le_trans deadline_cmp deadline_total same_deadline x z y h (le_other deadline_cmp deadline_total same_deadline y z f)) ∙ e))
    by true e false f c h = rw (e, f) (rw e refl)
    by false e true f c h = rw (e, f) refl
    by false e false f true h = absurd (false≢true (sym (le_trans deadline_cmp deadline_total same_deadline x y z e f) ∙ h))
    by false e false f false h = rw (e, f) (rw (e, h) refl)

-- ---- the lesser of two timers, if there are any

abbrev lesser_of : Option Timer → Option Timer → Option Timer
lesser_of None b = b
lesser_of (Some a) None = Some a
lesser_of (Some a) (Some b) = Some (lesser a b)

of_swap : (a b : Option Timer) → lesser_of a b ≡ lesser_of b a
of_swap None None = refl
of_swap None (Some b) = refl
of_swap (Some a) None = refl
of_swap (Some a) (Some b) = ap (λ t. Some t) (lesser_swap a b)

of_group : (a b c : Option Timer) → lesser_of (lesser_of a b) c ≡ lesser_of a (lesser_of b c)
of_group None b c = refl
of_group (Some a) None c = refl
of_group (Some a) (Some b) None = refl
of_group (Some a) (Some b) (Some c) = ap (λ t. Some t) (lesser_group a b c)

-- two timers more, one of each kind
of_both : (a b c d : Option Timer) → lesser_of a (lesser_of b (lesser_of c d)) ≡ lesser_of (lesser_of a c) (lesser_of b d)
of_both a b c d =
    ap (lesser_of a) (sym (of_group b c d) ∙ ap (λ t. lesser_of t d) (of_swap b c) ∙ of_group c b d)
    ∙ sym (of_group a c (lesser_of b d))

-- ---- the first of a list

-- a timer that may run
abbrev timer_at : TimerKind → Key (List ℕ) → Option ℕ → Option Timer
timer_at timer key None = None
timer_at timer key (Some ends) = Some (record { ends_at = ends; timer = timer; key = key })

first_placed : (d : Timer) (ds : List Timer) → slice_get (placed deadline_cmp d ds) 0 ≡ lesser_of (Some d) (slice_get ds 0)
unfolding placed lesser
first_placed d [] = refl
first_placed d (x ∷ ds) =
    elim (is_gt (deadline_cmp d x)) as (λ b. slice_get (cond b (x ∷ placed deadline_cmp d ds) (d ∷ x ∷ ds)) 0 ≡ Some (cond b x d)) [
      | true ↦ refl
      | false ↦ refl
    ]

first_with : (timer : TimerKind) (key : Key (List ℕ)) (end : Option ℕ) (ds : List Timer) → slice_get (with_end timer key end ds) 0 ≡ lesser_of (timer_at timer key end) (slice_get ds 0)
first_with timer key None ds = refl
first_with timer key (Some ends) ds = first_placed (record { ends_at = ends; timer = timer; key = key }) ds

module _ (timer : TimerKind) where
  abbrev of_alarm : Numbered → Timer
  of_alarm t = record { ends_at = t.ends_at; timer = timer; key = t.key }

  -- the number counts only between timers that are equal
  one_first : (a x : Numbered) → Some (of_alarm (cond (is_gt (alarm_cmp a x)) x a)) ≡ Some (lesser (of_alarm a) (of_alarm x))
  unfolding lesser alarm_cmp deadline_cmp
  one_first a x = by (nat_cmp a.ends_at x.ends_at) refl (key_cmp a.key x.key) refl
    where
      tied : nat_cmp (timer_rank timer) (timer_rank timer) ≡ Equal
      tied = tied_itself nat_cmp_total (timer_rank timer)

      by : (e : Ordering) → nat_cmp a.ends_at x.ends_at ≡ e → (k : Ordering) → key_cmp a.key x.key ≡ k →
          Some (of_alarm (cond (is_gt (ordering_then (ordering_then (nat_cmp a.ends_at x.ends_at) (key_cmp a.key x.key)) (nat_cmp a.number x.number))) x a))
          ≡ Some (cond (is_gt (ordering_then (ordering_then (nat_cmp a.ends_at x.ends_at) (nat_cmp (timer_rank timer) (timer_rank timer))) (key_cmp a.key x.key))) (of_alarm x) (of_alarm a))
      by Less e k f = rw e refl
      by Greater e k f = rw e refl
      by Equal e Less f = rw (e, f, tied) refl
      by Equal e Greater f = rw (e, f, tied) refl
      by Equal e Equal f =
          let ends = nat_cmp-IsAntisymmetric a.ends_at x.ends_at e in
          let keys = equal_keys a.key x.key f in
          let same : of_alarm x ≡ of_alarm a = λ i. record { ends_at = sym ends i; timer = timer; key = sym keys i } in
          rw (e, f, tied) (elim (is_gt (nat_cmp a.number x.number)) as (λ b. Some (of_alarm (cond b x a)) ≡ Some (of_alarm a)) [
            | true ↦ ap (λ t. Some t) same
            | false ↦ refl
          ])

  first_alarm : (a : Numbered) (ts : List Numbered) → first_in timer (placed alarm_cmp a ts) ≡ lesser_of (Some (of_alarm a)) (first_in timer ts)
  unfolding placed
  first_alarm a [] = refl
  first_alarm a (x ∷ ts) =
      (elim (is_gt (alarm_cmp a x)) as (λ b. first_in timer (cond b (x ∷ placed alarm_cmp a ts) (a ∷ x ∷ ts)) ≡ Some (of_alarm (cond b x a))) [
        | true ↦ refl
        | false ↦ refl
      ]) ∙ one_first a x

  first_of_with : (key : Key (List ℕ)) (n : ℕ) (end : Option ℕ) (ts : List Numbered) → first_in timer (with_alarm key n end ts) ≡ lesser_of (timer_at timer key end) (first_in timer ts)
  first_of_with key n None ts = refl
  first_of_with key n (Some ends) ts = first_alarm (record { ends_at = ends; key = key; number = n }) ts

-- ---- the first of both kinds

lesser_both : (ns : List ℕ) (records : List (Record (List ℕ))) → length ns ≡ length records → slice_get (timers_of records) 0 ≡ lesser_of (first_in PendingTimer (numbered PendingTimer ns records)) (first_in ExpiryTimer (numbered ExpiryTimer ns records))
unfolding timers_of numbered
lesser_both [] [] count = refl
lesser_both [] (x ∷ records) count = absurd (omega (arith, count))
lesser_both (n ∷ ns) [] count = absurd (omega (arith, count))
lesser_both (n ∷ ns) (x ∷ records) count =
    let p = end_of PendingTimer x.machine in
    let e = end_of ExpiryTimer x.machine in
    let prunes = numbered PendingTimer ns records in
    let expiries = numbered ExpiryTimer ns records in
    first_with PendingTimer x.key p (with_end ExpiryTimer x.key e (timers_of records))
    ∙ ap (lesser_of (timer_at PendingTimer x.key p)) (first_with ExpiryTimer x.key e (timers_of records) ∙ ap (lesser_of (timer_at ExpiryTimer x.key e)) (lesser_both ns records (omega (arith, count))))
    ∙ of_both (timer_at PendingTimer x.key p) (timer_at ExpiryTimer x.key e) (first_in PendingTimer prunes) (first_in ExpiryTimer expiries)
    ∙ (λ i. lesser_of (sym (first_of_with PendingTimer x.key n p prunes) i) (sym (first_of_with ExpiryTimer x.key n e expiries) i))

-- a Prune-Pending Timer fires first where both end at one time
sooner_is : (a b : Numbered) → sooner_of (Some (of_alarm PendingTimer a)) (Some (of_alarm ExpiryTimer b)) ≡ lesser_of (Some (of_alarm PendingTimer a)) (Some (of_alarm ExpiryTimer b))
unfolding lesser deadline_cmp
sooner_is a b = grind arith

sooner_both : (ps es : List Numbered) → sooner_of (first_in PendingTimer ps) (first_in ExpiryTimer es) ≡ lesser_of (first_in PendingTimer ps) (first_in ExpiryTimer es)
sooner_both [] [] = refl
sooner_both [] (e ∷ es) = refl
sooner_both (p ∷ ps) [] = refl
sooner_both (p ∷ ps) (e ∷ es) = sooner_is p e

pub first_of_both : (ns : List ℕ) (records : List (Record (List ℕ))) → length ns ≡ length records → sooner_of (first_in PendingTimer (numbered PendingTimer ns records)) (first_in ExpiryTimer (numbered ExpiryTimer ns records)) ≡ slice_get (timers_of records) 0
first_of_both ns records count = sooner_both (numbered PendingTimer ns records) (numbered ExpiryTimer ns records) ∙ sym (lesser_both ns records count)

-- ---- as the code finds it

module _ {A : Type 0} (bytes_of : A → List ℕ) where
  sooner_seen : (a b : Option (Deadline A)) → option_map (deadline_seen bytes_of) (sooner_of a b) ≡ sooner_of (option_map (deadline_seen bytes_of) a) (option_map (deadline_seen bytes_of) b)
  sooner_seen None b = refl
  sooner_seen (Some a) None = refl
  sooner_seen (Some a) (Some b) =
      elim (ltb b.ends_at a.ends_at) as (λ t. option_map (deadline_seen bytes_of) (cond t (Some b) (Some a)) ≡ cond t (Some (deadline_seen bytes_of b)) (Some (deadline_seen bytes_of a))) [
        | true ↦ refl
        | false ↦ refl
      ]

  module _ (slab : Slab (Held A)) (timer : TimerKind) where
    at_slot : (ends n : ℕ) (key : Key (List ℕ)) (slot : Option (Held A)) → option_map (λ (h : Held A). key_seen bytes_of h.key) slot ≡ Some key →
        option_map (deadline_seen bytes_of) (option_map (λ (h : Held A). record { ends_at = ends; timer = timer; key = h.key }) slot) ≡ Some (record { ends_at = ends; timer = timer; key = key })
    at_slot ends n key None e = absurd (never e)
      where
        never : ◌≡◌ {A = Option (Key (List ℕ))} None (Some key) → ⊥
        never f = cc
    at_slot ends n key (Some held) e =
        let same : key_seen bytes_of held.key ≡ key = cc in
        λ i. Some (record { ends_at = ends; timer = timer; key = same i })

    first_seen : (ts : List Numbered) → AreKnown bytes_of slab ts → option_map (deadline_seen bytes_of) (deadline_at slab timer (slice_get (map alarm_of ts) 0)) ≡ first_in timer ts
    first_seen [] known = refl
    first_seen (t ∷ ts) known = at_slot t.ends_at t.number t.key (get slab t.number) known.keys.0

  pub found_first : (slab : Slab (Held A)) (prunes expiries : List Numbered) (ps es : List Alarm) (p e r : Option (Deadline A)) → AreKnown bytes_of slab prunes → AreKnown bytes_of slab expiries → ps ≡ map alarm_of prunes → es ≡ map alarm_of expiries →
      p ≡ deadline_at slab PendingTimer (slice_get ps 0) → e ≡ deadline_at slab ExpiryTimer (slice_get es 0) → r ≡ sooner_of p e → option_map (deadline_seen bytes_of) r ≡ sooner_of (first_in PendingTimer prunes) (first_in ExpiryTimer expiries)
  found_first slab prunes expiries ps es p e r known_p known_e kept_p kept_e is_p is_e is =
      let seen = option_map (deadline_seen bytes_of) in
      let first_p = ap seen (is_p ∙ ap (λ (xs : List Alarm). deadline_at slab PendingTimer (slice_get xs 0)) kept_p) ∙ first_seen slab PendingTimer prunes known_p in
      let first_e = ap seen (is_e ∙ ap (λ (xs : List Alarm). deadline_at slab ExpiryTimer (slice_get xs 0)) kept_e) ∙ first_seen slab ExpiryTimer expiries known_e in
      ap seen is ∙ sooner_seen p e ∙ (λ i. sooner_of (first_p i) (first_e i))
