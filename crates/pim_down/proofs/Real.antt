-- The records that are held are real: their ports are there, their addresses those of their kinds, and their states and
-- timers go together.
use Rattle.pim_down.proofs.Words.{◌≡◌, ℕ, ◌<◌, ◌≤◌, Bool, true, false, cond, ◌&&◌, not, List, [], ◌∷◌, ◌++◌, Option, Some, None, map, refl, sym, ap, subst, ◌∙◌, arith, Less, Equal, Greater, is_some, AllByRecursion, flat_map, false≢true, IsGroupAddress, AddressFamily, Entry, GroupSet, Message, IsMessageEntry, IsMessageSet, IsMessage, What, Star, Source, Rpt, Key, State, Join, PrunePending, Prune, PruneTmp, PrunePendingTmp, Pending, Machine, Record, key_cmp, same_key, Start, join_in, on_join, prune_in, on_prune, star_join_in, on_star_join, rpt_prune_in, on_rpt_prune, end_in, on_end, machine_at, recorded, at_rank, changed, each_changed, Event, is_known, entry_events, list_events, set_events, events_of, key_of, on_own, is_rpt, is_star_join, is_rpt_on, is_rpt_of, on_rpts, act, act_all, at_end, hearing, pending_after, record_after, on_ppt, is_temporary, IsSettled, HasSource, joined_or_pending, has_state, is_pending, IsReal}
use Rattle.pim_jp.specs.declared.entry.Entry.TheVariants as entry
use Rattle.pim_down.proofs.Order.{equal_keys, same_keys}
use Rattle.pim_down.proofs.Heard.{settled_hearing}

-- ---- lists

pub all_append : {X : Type 0} (P : X → Type 0) (xs ys : List X) → AllByRecursion P xs → AllByRecursion P ys → AllByRecursion P (xs ++ ys)
all_append P [] ys a b = b
all_append P (x ∷ xs) ys a b = (a.0, all_append P xs ys a.1 b)

pub all_flat : {X Y : Type 0} (P : X → Type 0) (Q : Y → Type 0) (f : X → List Y) → ((x : X) → P x → AllByRecursion Q (f x)) → (xs : List X) → AllByRecursion P xs → AllByRecursion Q (flat_map f xs)
all_flat P Q f each [] a = tt
all_flat P Q f each (x ∷ xs) a = all_append Q (f x) (flat_map f xs) (each x a.0) (all_flat P Q f each xs a.1)

-- ---- the events of a message that can be spelled

pub record IsRealEvent (family : AddressFamily) (event : Event) : Type 0 where
  pub group : IsGroupAddress family event.group
  pub source : HasSource family event.what

module _ (family : AddressFamily) (known : List ℕ → Option (List ℕ)) where
  real_entry : (joins : Bool) (group : List ℕ) → IsGroupAddress family group → (this : Entry (List ℕ)) → IsMessageEntry family this → AllByRecursion (IsRealEvent family) (entry_events known joins group this)
  real_entry joins group g (entry.Star rp) e =
      elim (joins && not (is_known (known group) rp)) as (λ b. AllByRecursion (IsRealEvent family) (cond b [] (record { joins = joins; group = group; what = Star } ∷ []))) [
        | true ↦ tt
        | false ↦ (record { group = g; source = tt }, tt)
      ]
  real_entry joins group g (entry.Source source) e = (record { group = g; source = e }, tt)
  real_entry joins group g (entry.Rpt source) e = (record { group = g; source = e }, tt)

  real_set : (set : GroupSet) → IsMessageSet family set → AllByRecursion (IsRealEvent family) (set_events known set)
  real_set set e =
      let group : IsGroupAddress family set.group = (e.0, e.1) in
      all_append (IsRealEvent family) (list_events known true set.group set.joined) (list_events known false set.group set.pruned)
      (all_flat (IsMessageEntry family) (IsRealEvent family) (entry_events known true set.group) (real_entry true set.group group) set.joined e.4)
      (all_flat (IsMessageEntry family) (IsRealEvent family) (entry_events known false set.group) (real_entry false set.group group) set.pruned e.6)

  pub real_events : (message : Message) → IsMessage family message → AllByRecursion (IsRealEvent family) (events_of known message)
  real_events message e = all_flat (IsMessageSet family) (IsRealEvent family) (set_events known) real_set message.sets e.3

-- ---- while a message is heard

-- the states and timers that go together then
abbrev not_joined : State → Bool
not_joined Join = false
not_joined _ = true

abbrev may_have : What (List ℕ) → State → Bool
may_have Star state = joined_or_pending state
may_have (Source source) state = joined_or_pending state
may_have (Rpt source) state = not_joined state

abbrev waits : State → Bool
waits PrunePending = true
waits PrunePendingTmp = true
waits _ = false

record Fits (family : AddressFamily) (ports : ℕ) (held : Record (List ℕ)) : Type 0 where
  port : held.key.port < ports
  group : IsGroupAddress family held.key.group
  source : HasSource family held.key.what
  state : may_have held.key.what held.machine.state ≡ true
  timer : is_some held.machine.pending ≡ waits held.machine.state

fits_state : (what : What (List ℕ)) (state : State) → has_state what state ≡ true → may_have what state ≡ true
fits_state Star state e = e
fits_state (Source source) state e = e
fits_state (Rpt source) Join e = e
fits_state (Rpt source) PrunePending e = refl
fits_state (Rpt source) Prune e = refl
fits_state (Rpt source) PruneTmp e = refl
fits_state (Rpt source) PrunePendingTmp e = refl

fits_timer : (what : What (List ℕ)) (state : State) → has_state what state ≡ true → is_pending state ≡ waits state
fits_timer what Join e = refl
fits_timer what PrunePending e = refl
fits_timer what Prune e = refl
fits_timer what PruneTmp e = refl
fits_timer Star PrunePendingTmp e = absurd (false≢true e)
fits_timer (Source source) PrunePendingTmp e = absurd (false≢true e)
fits_timer (Rpt source) PrunePendingTmp e = absurd (false≢true e)

real_state : (what : What (List ℕ)) (state : State) → may_have what state ≡ true → is_temporary state ≡ false → (has_state what state ≡ true) × (waits state ≡ is_pending state)
real_state Star Join e s = (refl, refl)
real_state Star PrunePending e s = (refl, refl)
real_state Star Prune e s = absurd (false≢true e)
real_state Star PruneTmp e s = absurd (false≢true e)
real_state Star PrunePendingTmp e s = absurd (false≢true e)
real_state (Source source) Join e s = (refl, refl)
real_state (Source source) PrunePending e s = (refl, refl)
real_state (Source source) Prune e s = absurd (false≢true e)
real_state (Source source) PruneTmp e s = absurd (false≢true e)
real_state (Source source) PrunePendingTmp e s = absurd (false≢true e)
real_state (Rpt source) Join e s = absurd (false≢true e)
real_state (Rpt source) PrunePending e s = (refl, refl)
real_state (Rpt source) Prune e s = (refl, refl)
real_state (Rpt source) PruneTmp e s = absurd (false≢true (sym s))
real_state (Rpt source) PrunePendingTmp e s = absurd (false≢true (sym s))

module _ (family : AddressFamily) (ports : ℕ) where
  fits_all : (records : List (Record (List ℕ))) → AllByRecursion (IsReal family ports) records → AllByRecursion (Fits family ports) records
  fits_all [] r = tt
  fits_all (held ∷ records) r = (
    record {
      port = r.0.port;
      group = r.0.group;
      source = r.0.source;
      state = fits_state held.key.what held.machine.state r.0.state;
      timer = r.0.timer ∙ fits_timer held.key.what held.machine.state r.0.state;
    },
    fits_all records r.1,
  )

  real_all : (records : List (Record (List ℕ))) → AllByRecursion (Fits family ports) records → IsSettled records → AllByRecursion (IsReal family ports) records
  unfolding IsSettled
  real_all [] f s = tt
  real_all (held ∷ records) f s =
      let is = real_state held.key.what held.machine.state f.0.state s.0 in
      (record { port = f.0.port; group = f.0.group; source = f.0.source; state = is.0; timer = f.0.timer ∙ is.1 }, real_all records f.1 s.1)

  -- a machine of a key, or none
  abbrev MayFit : Key (List ℕ) → Option Machine → Type 0
  MayFit key None = Unit {0}
  MayFit key (Some machine) = Fits family ports (record { key = key; machine = machine })

  fits_recorded : (key : Key (List ℕ)) (machine : Option Machine) (records : List (Record (List ℕ))) → MayFit key machine → AllByRecursion (Fits family ports) records → AllByRecursion (Fits family ports) (recorded key machine ++ records)
  fits_recorded key None records f fs = fs
  fits_recorded key (Some machine) records f fs = (f, fs)

  fits_changed : (key : Key (List ℕ)) (change : Option Machine → Option Machine) → ((m : Option Machine) → MayFit key m → MayFit key (change m)) → (records : List (Record (List ℕ))) → AllByRecursion (Fits family ports) records → AllByRecursion (Fits family ports) (changed key change records)
  unfolding changed
  fits_changed key change keeps [] fs = by (change None) (keeps None tt)
    where
      by : (m : Option Machine) → MayFit key m → AllByRecursion (Fits family ports) (recorded key m)
      by None f = tt
      by (Some machine) f = (f, tt)
  fits_changed key change keeps (held ∷ records) fs =
      elim (key_cmp key held.key) as (λ r. key_cmp key held.key ≡ r → AllByRecursion (Fits family ports) (at_rank r (recorded key (change None) ++ held ∷ records) (recorded held.key (change (Some held.machine)) ++ records) (held ∷ changed key change records))) [
        | Less ↦ λ e. fits_recorded key (change None) (held ∷ records) (keeps None tt) fs
        | Equal ↦ λ e.
            let is = equal_keys key held.key e in
            let kept = subst (λ (k : Key (List ℕ)). MayFit k (change (Some held.machine))) is (keeps (Some held.machine) (subst (λ (k : Key (List ℕ)). MayFit k (Some held.machine)) (sym is) fs.0)) in
            fits_recorded held.key (change (Some held.machine)) records kept fs.1
        | Greater ↦ λ e. (fs.0, fits_changed key change keeps records fs.1)
      ] refl

  fits_each : (change : Key (List ℕ) → Option Machine → Option Machine) → ((key : Key (List ℕ)) (m : Option Machine) → MayFit key m → MayFit key (change key m)) → (records : List (Record (List ℕ))) → AllByRecursion (Fits family ports) records → AllByRecursion (Fits family ports) (each_changed change records)
  unfolding each_changed
  fits_each change keeps [] fs = tt
  fits_each change keeps (held ∷ records) fs =
      fits_recorded held.key (change held.key (Some held.machine)) (each_changed change records) (keeps held.key (Some held.machine) fs.0) (fits_each change keeps records fs.1)

  -- another state and other timers for the machine of a key
  fits_with : (key : Key (List ℕ)) (machine : Machine) (state : State) (expiry : Option ℕ) (pending : Option Pending) → Fits family ports (record { key = key; machine = machine }) → may_have key.what state ≡ true → is_some pending ≡ waits state → MayFit key (Some (record { state = state; expires_in = expiry; pending = pending }))
  fits_with key machine state expiry pending f s t = record { port = f.port; group = f.group; source = f.source; state = s; timer = t }

  fits_join : (key : Key (List ℕ)) → ((s : State) → may_have key.what s ≡ joined_or_pending s) → key.port < ports → IsGroupAddress family key.group → HasSource family key.what → (start : Start) (m : Option Machine) → MayFit key m → MayFit key (on_join start m)
  unfolding on_join
  fits_join key is port group source start None f = record { port = port; group = group; source = source; state = is Join; timer = refl }
  fits_join key is port group source start (Some held) f = by held.state refl
    where
      by : (s : State) → held.state ≡ s → MayFit key (join_in s start held)
      by Join e = fits_with key held Join _ held.pending f (is Join) (f.timer ∙ ap waits e)
      by PrunePending e = fits_with key held Join _ None f (is Join) refl
      by Prune e = f
      by PruneTmp e = f
      by PrunePendingTmp e = f

  fits_prune : (key : Key (List ℕ)) → ((s : State) → may_have key.what s ≡ joined_or_pending s) → (start : Start) (m : Option Machine) → MayFit key m → MayFit key (on_prune start m)
  unfolding on_prune
  fits_prune key is start None f = tt
  fits_prune key is start (Some held) f = by held.state
    where
      by : (s : State) → MayFit key (prune_in s start held)
      by Join = fits_with key held PrunePending held.expires_in (Some start.pending) f (is PrunePending) refl
      by PrunePending = f
      by Prune = f
      by PruneTmp = f
      by PrunePendingTmp = f

  fits_rpt_prune : (key : Key (List ℕ)) → ((s : State) → not_joined s ≡ true → may_have key.what s ≡ true) → key.port < ports → IsGroupAddress family key.group → HasSource family key.what → (start : Start) (m : Option Machine) → MayFit key m → MayFit key (on_rpt_prune start m)
  unfolding on_rpt_prune
  fits_rpt_prune key is port group source start None f = record { port = port; group = group; source = source; state = is PrunePending refl; timer = refl }
  fits_rpt_prune key is port group source start (Some held) f = by held.state refl
    where
      by : (s : State) → held.state ≡ s → MayFit key (rpt_prune_in s start held)
      by Join e = f
      by PrunePending e = f
      by Prune e = fits_with key held Prune _ held.pending f (is Prune refl) (f.timer ∙ ap waits e)
      by PruneTmp e = fits_with key held Prune _ held.pending f (is Prune refl) (f.timer ∙ ap waits e)
      by PrunePendingTmp e = fits_with key held PrunePending _ held.pending f (is PrunePending refl) (f.timer ∙ ap waits e)

  fits_own : (port : ℕ) (group : List ℕ) → port < ports → IsGroupAddress family group → (start : Start) (joins : Bool) (what : What (List ℕ)) → HasSource family what → (m : Option Machine) → MayFit (record { port = port; group = group; what = what }) m → MayFit (record { port = port; group = group; what = what }) (on_own joins what start m)
  fits_own port group p g start true Star s m f = fits_join (record { port = port; group = group; what = Star }) (λ x. refl) p g s start m f
  fits_own port group p g start true (Source source) s m f = fits_join (record { port = port; group = group; what = Source source }) (λ x. refl) p g s start m f
  fits_own port group p g start true (Rpt source) s m f = tt
  fits_own port group p g start false Star s m f = fits_prune (record { port = port; group = group; what = Star }) (λ x. refl) start m f
  fits_own port group p g start false (Source source) s m f = fits_prune (record { port = port; group = group; what = Source source }) (λ x. refl) start m f
  fits_own port group p g start false (Rpt source) s m f = fits_rpt_prune (record { port = port; group = group; what = Rpt source }) (λ x e. e) p g s start m f

  rpt_may : (what : What (List ℕ)) → is_rpt what ≡ true → (s : State) → not_joined s ≡ true → may_have what s ≡ true
  rpt_may Star r s e = absurd (false≢true r)
  rpt_may (Source source) r s e = absurd (false≢true r)
  rpt_may (Rpt source) r s e = e

  fits_star_join : (key : Key (List ℕ)) → ((s : State) → not_joined s ≡ true → may_have key.what s ≡ true) → (m : Option Machine) → MayFit key m → MayFit key (on_star_join m)
  unfolding on_star_join
  fits_star_join key is None f = tt
  fits_star_join key is (Some held) f = by held.state refl
    where
      by : (s : State) → held.state ≡ s → MayFit key (star_join_in s held)
      by Join e = f
      by PrunePending e = fits_with key held PrunePendingTmp held.expires_in held.pending f (is PrunePendingTmp refl) (f.timer ∙ ap waits e)
      by Prune e = fits_with key held PruneTmp held.expires_in held.pending f (is PruneTmp refl) (f.timer ∙ ap waits e)
      by PruneTmp e = f
      by PrunePendingTmp e = f

  both_true : (a b c : Bool) → ((a && b) && c) ≡ true → b ≡ true
  both_true true true c e = refl
  both_true true false c e = e
  both_true false b c e = absurd (false≢true e)

  fits_rpts : (port : ℕ) (group : List ℕ) (key : Key (List ℕ)) (m : Option Machine) → MayFit key m → MayFit key (on_rpts port group key m)
  fits_rpts port group key m f =
      elim (is_rpt_of port group key) as (λ b. is_rpt_of port group key ≡ b → MayFit key (cond b (on_star_join m) m)) [
        | true ↦ λ e. fits_star_join key (rpt_may key.what (both_true _ (is_rpt key.what) _ e)) m f
        | false ↦ λ e. f
      ] refl

  fits_on_end : (key : Key (List ℕ)) (m : Option Machine) → MayFit key m → MayFit key (on_end m)
  unfolding on_end
  fits_on_end key None f = tt
  fits_on_end key (Some held) f = by held.state
    where
      by : (s : State) → MayFit key (end_in s held)
      by Join = f
      by PrunePending = f
      by Prune = f
      by PruneTmp = tt
      by PrunePendingTmp = tt

  fits_end : (port : ℕ) (key : Key (List ℕ)) (m : Option Machine) → MayFit key m → MayFit key (at_end port key m)
  fits_end port key m f = elim (is_rpt_on port key) as (λ b. MayFit key (cond b (on_end m) m)) [ true ↦ fits_on_end key m f | false ↦ f ]

  fits_act : (port : ℕ) → port < ports → (start : Start) (event : Event) → IsRealEvent family event → (records : List (Record (List ℕ))) → AllByRecursion (Fits family ports) records → AllByRecursion (Fits family ports) (act port start event records)
  fits_act port p start event real records fs =
      let own = changed (key_of port event) (on_own event.joins event.what start) records in
      let after = fits_changed (key_of port event) (on_own event.joins event.what start) (fits_own port event.group p real.group start event.joins event.what real.source) records fs in
      elim (is_star_join event) as (λ s. AllByRecursion (Fits family ports) (cond s (each_changed (on_rpts port event.group) own) own)) [
        | true ↦ fits_each (on_rpts port event.group) (fits_rpts port event.group) own after
        | false ↦ after
      ]

  fits_act_all : (port : ℕ) → port < ports → (start : Start) (events : List Event) → AllByRecursion (IsRealEvent family) events → (records : List (Record (List ℕ))) → AllByRecursion (Fits family ports) records → AllByRecursion (Fits family ports) (act_all port start events records)
  unfolding act_all
  fits_act_all port p start [] real records fs = fs
  fits_act_all port p start (event ∷ events) real records fs = fits_act_all port p start events real.1 (act port start event records) (fits_act port p start event real.0 records fs)

  pub real_hearing : (port : ℕ) → port < ports → (start : Start) (events : List Event) → AllByRecursion (IsRealEvent family) events → (records : List (Record (List ℕ))) → IsSettled records → AllByRecursion (IsReal family ports) records → AllByRecursion (IsReal family ports) (hearing port start events records)
  real_hearing port p start events real records settled rs =
      real_all (hearing port start events records)
      (fits_each (at_end port) (fits_end port) (act_all port start events records) (fits_act_all port p start events real records (fits_all records rs)))
      (settled_hearing port start events records settled)

  -- ---- time

  still_waits : (k : ℕ) (p : Option Pending) → is_some (pending_after k p) ≡ is_some p
  still_waits k None = refl
  still_waits k (Some timer) = refl

  pub real_later : (k : ℕ) (records : List (Record (List ℕ))) → AllByRecursion (IsReal family ports) records → AllByRecursion (IsReal family ports) (map (record_after k) records)
  real_later k [] rs = tt
  real_later k (held ∷ records) rs = (
    record {
      port = rs.0.port;
      group = rs.0.group;
      source = rs.0.source;
      state = rs.0.state;
      timer = still_waits k held.machine.pending ∙ rs.0.timer;
    },
    real_later k records rs.1,
  )

  -- a record that a timer leaves
  pub real_ppt : (held : Record (List ℕ)) → IsReal family ports held → (records : List (Record (List ℕ))) → AllByRecursion (IsReal family ports) records → AllByRecursion (IsReal family ports) (recorded held.key (on_ppt held.key.what held.machine) ++ records)
  real_ppt held r records rs = by held.key.what r.source
    where
      by : (what : What (List ℕ)) → HasSource family what → AllByRecursion (IsReal family ports) (recorded (record { port = held.key.port; group = held.key.group; what = what }) (on_ppt what held.machine) ++ records)
      by Star source = rs
      by (Source s) source = rs
      by (Rpt s) source = (record { port = r.port; group = r.group; source = source; state = refl; timer = refl }, rs)

  -- ---- a port that isn't there

  pub none_on : (key : Key (List ℕ)) → ports ≤ key.port → (records : List (Record (List ℕ))) → AllByRecursion (IsReal family ports) records → machine_at key records ≡ None
  unfolding machine_at
  none_on key past [] rs = refl
  none_on key past (held ∷ records) rs =
      elim (same_key key held.key) as (λ b. same_key key held.key ≡ b → cond b (Some held.machine) (machine_at key records) ≡ None) [
        | true ↦ λ e. let same = ap (λ (k : Key (List ℕ)). k.port) (same_keys key held.key e) in let port = rs.0.port in absurd (omega arith)
        | false ↦ λ e. none_on key past records rs.1
      ] refl
