-- No timer ends before a moment: what is left of that when timers fire and when a message is heard.
use Rattle.pim_down.proofs.Words.{◌≡◌, ℕ, zero, suc, ◌+◌, ◌<◌, ◌≤◌, Bool, true, false, List, [], ◌∷◌, ◌++◌, length, take, drop, get_or, Option, Some, None, Result, Ok, Err, OnOk, OnErr, cond, max, sym, ap, subst, arith, remove, Less, Equal, Greater, nat_tests, Held, Key, What, Star, Source, Rpt, State, Join, PrunePending, Prune, PruneTmp, PrunePendingTmp, Machine, Record, HearFault, key_cmp, recorded, at_rank, changed, each_changed, Start, greater, on_join, join_in, on_prune, prune_in, on_rpt_prune, rpt_prune_in, on_star_join, star_join_in, on_end, end_in, Event, key_of, on_own, is_star_join, is_rpt_on, is_rpt_of, on_rpts, at_end, act, act_all, hearing, on_ppt, after_ppt, sooner, pending_end, first_end, ends_by, IsQuietUntil, IsLate, AreLate, IsLateStart, record_seen, records_seen}

-- ---- the first end

quiet_both : (m : ℕ) (a b : Option ℕ) → IsQuietUntil m (sooner a b) → IsQuietUntil m a × IsQuietUntil m b
quiet_both m None b h = (tt, h)
quiet_both m (Some a) None h = (h, tt)
quiet_both m (Some a) (Some b) h = (omega (arith, h), omega (arith, h))

quiet_sooner : (m : ℕ) (a b : Option ℕ) → IsQuietUntil m a → IsQuietUntil m b → IsQuietUntil m (sooner a b)
quiet_sooner m None b h k = k
quiet_sooner m (Some a) None h k = h
quiet_sooner m (Some a) (Some b) h k = omega (arith, h, k)

late_quiet : (m : ℕ) (records : List (Record (List ℕ))) → AreLate m records → IsQuietUntil m (first_end records)
unfolding AreLate first_end
late_quiet m [] h = tt
late_quiet m (held ∷ records) h =
    quiet_sooner m (sooner held.machine.expires_in (pending_end held.machine.pending)) (first_end records)
    (quiet_sooner m held.machine.expires_in (pending_end held.machine.pending) h.0.0 h.0.1)
    (late_quiet m records h.1)

quiet_late : (m : ℕ) (records : List (Record (List ℕ))) → IsQuietUntil m (first_end records) → AreLate m records
unfolding AreLate first_end
quiet_late m [] h = tt
quiet_late m (held ∷ records) h =
    let both = quiet_both m (sooner held.machine.expires_in (pending_end held.machine.pending)) (first_end records) h in
    (quiet_both m held.machine.expires_in (pending_end held.machine.pending) both.0, quiet_late m records both.1)

not_by : (m : ℕ) (end : Option ℕ) → ends_by m end ≡ false → IsQuietUntil m end
not_by m None h = tt
not_by m (Some ends) h = grind (arith, nat_tests)

pub late_not_by : (m : ℕ) (records : List (Record (List ℕ))) → ends_by m (first_end records) ≡ false → AreLate m records
late_not_by m records h = quiet_late m records (not_by m (first_end records) h)

-- the moment of the first end is the later of it and now
pub late_at_end : (now ends m : ℕ) (records : List (Record (List ℕ))) → first_end records ≡ Some ends → m ≡ max now ends → AreLate now records → AreLate m records
late_at_end now ends m records first is h =
    let from : now ≤ ends = subst (IsQuietUntil now) first (late_quiet now records h) in
    let same : m ≤ ends = omega (arith, from, is) in
    quiet_late m records (subst (IsQuietUntil m) (sym first) same)

pub late_first : (now ends : ℕ) (records : List (Record (List ℕ))) → AreLate now records → first_end records ≡ Some ends → now ≤ ends
late_first now ends records late first = subst (IsQuietUntil now) first (late_quiet now records late)

-- ---- timers that fire

late_append : (m : ℕ) (xs ys : List (Record (List ℕ))) → AreLate m xs → AreLate m ys → AreLate m (xs ++ ys)
unfolding AreLate
late_append m [] ys h k = k
late_append m (x ∷ xs) ys h k = (h.0, late_append m xs ys h.1 k)

late_take : (m i : ℕ) (records : List (Record (List ℕ))) → AreLate m records → AreLate m (take i records)
unfolding AreLate
late_take m zero records h = tt
late_take m (suc i) [] h = tt
late_take m (suc i) (held ∷ records) h = (h.0, late_take m i records h.1)

late_drop : (m i : ℕ) (records : List (Record (List ℕ))) → AreLate m records → AreLate m (drop i records)
unfolding AreLate
late_drop m zero records h = h
late_drop m (suc i) [] h = tt
late_drop m (suc i) (held ∷ records) h = late_drop m i records h.1

late_ppt : (m : ℕ) (held : Record (List ℕ)) → IsLate m held.machine → AreLate m (after_ppt held)
unfolding AreLate
late_ppt m held h = by held.key.what
  where
    by : (what : What (List ℕ)) → AreLate m (recorded (record { port = held.key.port; group = held.key.group; what = what }) (on_ppt what held.machine))
    by Star = tt
    by (Source source) = tt
    by (Rpt source) = ((h.0, tt), tt)

module _ {A : Type 0} (bytes_of : A → List ℕ) (m : ℕ) where
  late_get : (items : List (Held A)) (i : ℕ) (d : Held A) → i < length items → AreLate m (records_seen bytes_of items) → IsLate m (record_seen bytes_of (get_or items i d)).machine
  unfolding AreLate
  late_get [] i d w h = absurd (omega arith)
  late_get (held ∷ items) zero d w h = h.0
  late_get (held ∷ items) (suc i) d w h = late_get items i d (omega arith) h.1

  pub late_fired : (items left : List (Held A)) (i : ℕ) (d : Held A) → i < length items → records_seen bytes_of left ≡ take i (records_seen bytes_of items) ++ (after_ppt (record_seen bytes_of (get_or items i d)) ++ drop (i + 1) (records_seen bytes_of items)) → AreLate m (records_seen bytes_of items) → AreLate m (records_seen bytes_of left)
  late_fired items left i d w is h =
      let old = records_seen bytes_of items in
      let fired = late_ppt m (record_seen bytes_of (get_or items i d)) (late_get items i d w h) in
      subst (AreLate m) (sym is) (late_append m (take i old) (after_ppt (record_seen bytes_of (get_or items i d)) ++ drop (i + 1) old) (late_take m i old h) (late_append m (after_ppt (record_seen bytes_of (get_or items i d))) (drop (i + 1) old) fired (late_drop m (i + 1) old h)))

  late_remove : (items : List (Held A)) (i : ℕ) → i < length items → AreLate m (records_seen bytes_of items) → AreLate m (records_seen bytes_of (remove items i))
  unfolding AreLate
  late_remove [] i w h = absurd (omega arith)
  late_remove (held ∷ items) zero w h = h.1
  late_remove (held ∷ items) (suc i) w h = (h.0, late_remove items i (omega arith) h.1)

  pub late_removed : (items left : List (Held A)) (i : ℕ) → i < length items → left ≡ remove items i → AreLate m (records_seen bytes_of items) → AreLate m (records_seen bytes_of left)
  late_removed items left i w is h = subst (λ (xs : List (Held A)). AreLate m (records_seen bytes_of xs)) (sym is) (late_remove items i w h)

  pub late_none : (items : List (Held A)) → items ≡ [] → AreLate m (records_seen bytes_of items)
  unfolding AreLate
  late_none items is = subst (λ (xs : List (Held A)). AreLate m (records_seen bytes_of xs)) (sym is) tt

-- ---- a message that is heard

module _ (m : ℕ) where
  abbrev MayBeLate : Option Machine → Type 0
  MayBeLate None = Unit {0}
  MayBeLate (Some machine) = IsLate m machine

  late_recorded : (key : Key (List ℕ)) (machine : Option Machine) (records : List (Record (List ℕ))) → MayBeLate machine → AreLate m records → AreLate m (recorded key machine ++ records)
  unfolding AreLate
  late_recorded key None records h hs = hs
  late_recorded key (Some machine) records h hs = (h, hs)

  late_alone : (key : Key (List ℕ)) (machine : Option Machine) → MayBeLate machine → AreLate m (recorded key machine)
  unfolding AreLate
  late_alone key None h = tt
  late_alone key (Some machine) h = (h, tt)

  late_changed : (key : Key (List ℕ)) (change : Option Machine → Option Machine) → ((x : Option Machine) → MayBeLate x → MayBeLate (change x)) → (records : List (Record (List ℕ))) → AreLate m records → AreLate m (changed key change records)
  unfolding changed AreLate
  late_changed key change keeps [] hs = late_alone key (change None) (keeps None tt)
  late_changed key change keeps (held ∷ records) hs =
      elim (key_cmp key held.key) as (λ r. AreLate m (at_rank r (recorded key (change None) ++ held ∷ records) (recorded held.key (change (Some held.machine)) ++ records) (held ∷ changed key change records))) [
        | Less ↦ late_recorded key (change None) (held ∷ records) (keeps None tt) hs
        | Equal ↦ late_recorded held.key (change (Some held.machine)) records (keeps (Some held.machine) hs.0) hs.1
        | Greater ↦ (hs.0, late_changed key change keeps records hs.1)
      ]

  late_each : (change : Key (List ℕ) → Option Machine → Option Machine) → ((key : Key (List ℕ)) (x : Option Machine) → MayBeLate x → MayBeLate (change key x)) → (records : List (Record (List ℕ))) → AreLate m records → AreLate m (each_changed change records)
  unfolding each_changed AreLate
  late_each change keeps [] hs = tt
  late_each change keeps (held ∷ records) hs =
      late_recorded held.key (change held.key (Some held.machine)) (each_changed change records) (keeps held.key (Some held.machine) hs.0) (late_each change keeps records hs.1)

  late_greater : (a b : Option ℕ) → IsQuietUntil m a → IsQuietUntil m b → IsQuietUntil m (greater a b)
  late_greater None b h k = tt
  late_greater (Some a) None h k = tt
  late_greater (Some a) (Some b) h k = omega (arith, h, k)

  late_join : (start : Start) → IsLateStart m start → (x : Option Machine) → MayBeLate x → MayBeLate (on_join start x)
  unfolding on_join
  late_join start s None h = (s.0, tt)
  late_join start s (Some held) h = by held.state
    where
      by : (state : State) → MayBeLate (join_in state start held)
      by Join = (late_greater held.expires_in start.expires_in h.0 s.0, h.1)
      by PrunePending = (late_greater held.expires_in start.expires_in h.0 s.0, tt)
      by Prune = h
      by PruneTmp = h
      by PrunePendingTmp = h

  late_prune : (start : Start) → IsLateStart m start → (x : Option Machine) → MayBeLate x → MayBeLate (on_prune start x)
  unfolding on_prune
  late_prune start s None h = tt
  late_prune start s (Some held) h = by held.state
    where
      by : (state : State) → MayBeLate (prune_in state start held)
      by Join = (h.0, s.1)
      by PrunePending = h
      by Prune = h
      by PruneTmp = h
      by PrunePendingTmp = h

  late_rpt_prune : (start : Start) → IsLateStart m start → (x : Option Machine) → MayBeLate x → MayBeLate (on_rpt_prune start x)
  unfolding on_rpt_prune
  late_rpt_prune start s None h = s
  late_rpt_prune start s (Some held) h = by held.state
    where
      by : (state : State) → MayBeLate (rpt_prune_in state start held)
      by Join = h
      by PrunePending = h
      by Prune = (late_greater held.expires_in start.expires_in h.0 s.0, h.1)
      by PruneTmp = (late_greater held.expires_in start.expires_in h.0 s.0, h.1)
      by PrunePendingTmp = (late_greater held.expires_in start.expires_in h.0 s.0, h.1)

  late_own : (start : Start) → IsLateStart m start → (joins : Bool) (what : What (List ℕ)) (x : Option Machine) → MayBeLate x → MayBeLate (on_own joins what start x)
  late_own start s true Star x h = late_join start s x h
  late_own start s true (Source source) x h = late_join start s x h
  late_own start s true (Rpt source) x h = tt
  late_own start s false Star x h = late_prune start s x h
  late_own start s false (Source source) x h = late_prune start s x h
  late_own start s false (Rpt source) x h = late_rpt_prune start s x h

  late_star_join : (x : Option Machine) → MayBeLate x → MayBeLate (on_star_join x)
  unfolding on_star_join
  late_star_join None h = tt
  late_star_join (Some held) h = by held.state
    where
      by : (state : State) → MayBeLate (star_join_in state held)
      by Join = h
      by PrunePending = h
      by Prune = h
      by PruneTmp = h
      by PrunePendingTmp = h

  late_rpts : (port : ℕ) (group : List ℕ) (key : Key (List ℕ)) (x : Option Machine) → MayBeLate x → MayBeLate (on_rpts port group key x)
  late_rpts port group key x h = elim (is_rpt_of port group key) as (λ b. MayBeLate (cond b (on_star_join x) x)) [ true ↦ late_star_join x h | false ↦ h ]

  late_on_end : (x : Option Machine) → MayBeLate x → MayBeLate (on_end x)
  unfolding on_end
  late_on_end None h = tt
  late_on_end (Some held) h = by held.state
    where
      by : (state : State) → MayBeLate (end_in state held)
      by Join = h
      by PrunePending = h
      by Prune = h
      by PruneTmp = tt
      by PrunePendingTmp = tt

  late_end : (port : ℕ) (key : Key (List ℕ)) (x : Option Machine) → MayBeLate x → MayBeLate (at_end port key x)
  late_end port key x h = elim (is_rpt_on port key) as (λ b. MayBeLate (cond b (on_end x) x)) [ true ↦ late_on_end x h | false ↦ h ]

  late_act : (port : ℕ) (start : Start) → IsLateStart m start → (event : Event) (records : List (Record (List ℕ))) → AreLate m records → AreLate m (act port start event records)
  late_act port start s event records hs =
      let own = changed (key_of port event) (on_own event.joins event.what start) records in
      let after = late_changed (key_of port event) (on_own event.joins event.what start) (late_own start s event.joins event.what) records hs in
      elim (is_star_join event) as (λ b. AreLate m (cond b (each_changed (on_rpts port event.group) own) own)) [
        | true ↦ late_each (on_rpts port event.group) (late_rpts port event.group) own after
        | false ↦ after
      ]

  late_act_all : (port : ℕ) (start : Start) → IsLateStart m start → (events : List Event) (records : List (Record (List ℕ))) → AreLate m records → AreLate m (act_all port start events records)
  unfolding act_all
  late_act_all port start s [] records hs = hs
  late_act_all port start s (event ∷ events) records hs = late_act_all port start s events (act port start event records) (late_act port start s event records hs)

  late_hearing : (port : ℕ) (start : Start) → IsLateStart m start → (events : List Event) (records : List (Record (List ℕ))) → AreLate m records → AreLate m (hearing port start events records)
  late_hearing port start s events records hs = late_each (at_end port) (late_end port) (act_all port start events records) (late_act_all port start s events records hs)

  -- what a call leaves that heard a message or refused it
  pub late_heard : {A T : Type 0} (bytes_of : A → List ℕ) (port : ℕ) (start : Start) (events : List Event) (r : Result T HearFault) (old new : List (Held A)) → IsLateStart m start → OnOk r (records_seen bytes_of new ≡ hearing port start events (records_seen bytes_of old)) → OnErr r (new ≡ old) → AreLate m (records_seen bytes_of old) → AreLate m (records_seen bytes_of new)
  late_heard bytes_of port start events (Ok x) old new s ok err hs = subst (AreLate m) (sym ok) (late_hearing port start s events (records_seen bytes_of old) hs)
  late_heard bytes_of port start events (Err e) old new s ok err hs = subst (AreLate m) (ap (records_seen bytes_of) (sym err)) hs
