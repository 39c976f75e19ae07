-- What an event does to the machine at a key, by cases.
use Rattle.pim_transitions.proofs.Words.{◌≡◌, ℕ, Bool, true, false, cond, not, ◌&&◌, ◌||◌, ◌==◌, eq-eqb, List, [], ◌∷◌, Option}
use Rattle.pim_transitions.proofs.Words.{None, Some, is_some, refl, sym, ap, subst, ◌∙◌, list_any, false≢true, What, Star, Source}
use Rattle.pim_transitions.proofs.Words.{Rpt, Key, State, Machine, Record, same_key, machine_at, Start, on_join, join_in}
use Rattle.pim_transitions.proofs.Words.{on_prune, prune_in, on_star_join, star_join_in, on_rpt_prune, rpt_prune_in, on_end}
use Rattle.pim_transitions.proofs.Words.{end_in, Event, key_of, on_own, is_rpt, is_star_join, is_rpt_on, is_rpt_of, effect}
use Rattle.pim_transitions.proofs.Words.{effects, at_end, KeysAreDistinct, reaches, joins_after}
use Rattle.pim_down.specs.declared.machines.machine.State.TheVariants as state
use Rattle.pim_down.specs.Sound.{IsSettled, is_temporary}

pub or_false : (a b : Bool) → (a || b) ≡ false → (a ≡ false) × (b ≡ false)
or_false true b e = absurd (false≢true (sym e))
or_false false b e = (refl, e)

pub and_true : (a b : Bool) → (a && b) ≡ true → (a ≡ true) × (b ≡ true)
and_true true b e = (refl, e)
and_true false b e = absurd (false≢true e)

pub or_true : (a : Bool) → (a || true) ≡ true
or_true true = refl
or_true false = refl

-- either way of a test
pub by_test : {P : Type 0} (b : Bool) → (b ≡ true → P) → (b ≡ false → P) → P
by_test true here other = here refl
by_test false here other = other refl

module _ (keys : KeysAreDistinct) (port : ℕ) (start : Start) where
  pub same_keys : (a b : Key (List ℕ)) → same_key a b ≡ true → a ≡ b
  same_keys a b e = (keys a b).1.0 e

  pub same_itself : (a : Key (List ℕ)) → same_key a a ≡ true
  same_itself a = (keys a a).1.1 refl

  -- an event acts as one that names the machine, as a Join(*,G) on an (S,G,rpt) machine of its group, or not at all
  pub by_effect : (P : Option Machine → Type 0) (event : Event) (key : Key (List ℕ)) (held : Option Machine)
      → (same_key (key_of port event) key ≡ true → P (on_own event.joins event.what start held))
      → (same_key (key_of port event) key ≡ false → is_star_join event ≡ true → is_rpt_of port event.group key ≡ true → P (on_star_join held))
      → (same_key (key_of port event) key ≡ false → is_star_join event && is_rpt_of port event.group key ≡ false → P held)
      → P (effect port start event key held)
  by_effect P event key held own star none = first (same_key (key_of port event) key) own star none
    where
      third : (s r : Bool) → (s ≡ true → r ≡ true → P (on_star_join held)) → (s && r ≡ false → P held) → P (cond s (cond r (on_star_join held) held) held)
      third true true star none = star refl refl
      third true false star none = none refl
      third false r star none = none refl

      first : (b : Bool) → (b ≡ true → P (on_own event.joins event.what start held))
          → (b ≡ false → is_star_join event ≡ true → is_rpt_of port event.group key ≡ true → P (on_star_join held))
          → (b ≡ false → is_star_join event && is_rpt_of port event.group key ≡ false → P held)
          → P (cond b (on_own event.joins event.what start held) (cond (is_star_join event) (cond (is_rpt_of port event.group key) (on_star_join held) held) held))
      first true own star none = own refl
      first false own star none = third (is_star_join event) (is_rpt_of port event.group key) (star refl) (none refl)

  -- an event that names the machine is of its port and of its kind
  pub own_what : (event : Event) (key : Key (List ℕ)) → same_key (key_of port event) key ≡ true → event.what ≡ key.what
  own_what event key e = ap (λ (k : Key (List ℕ)). k.what) (same_keys (key_of port event) key e)

  pub own_port : (event : Event) (key : Key (List ℕ)) → same_key (key_of port event) key ≡ true → port ≡ key.port
  own_port event key e = ap (λ (k : Key (List ℕ)). k.port) (same_keys (key_of port event) key e)

  itself : (n : ℕ) → (n == n) ≡ true
  itself n = eq-eqb n n refl

  -- a machine that is no (S,G,rpt) machine of the port is named by no event of one
  pub own_plain : (event : Event) (key : Key (List ℕ)) → is_rpt_on port key ≡ false → same_key (key_of port event) key ≡ true → is_rpt event.what ≡ false
  own_plain event key plain e =
      let same : event.what ≡ key.what = own_what event key e in
      let on : (key.port == port) ≡ true = subst (λ p. (p == port) ≡ true) (own_port event key e) (itself port) in
      ap is_rpt same ∙ sym (ap (λ b. b && is_rpt key.what) on) ∙ plain

  pub own_rpt : (event : Event) (key : Key (List ℕ)) → is_rpt_on port key ≡ true → same_key (key_of port event) key ≡ true → is_rpt event.what ≡ true
  own_rpt event key rpt e = ap is_rpt (own_what event key e) ∙ (and_true (key.port == port) (is_rpt key.what) rpt).1

  -- a Join(*,G) acts on no other machines
  pub no_star : (event : Event) (key : Key (List ℕ)) → is_rpt_on port key ≡ false → is_rpt_of port event.group key ≡ true → ⊥
  no_star event key plain e = false≢true (sym plain ∙ (and_true (is_rpt_on port key) _ e).0)

  -- ---- machines that are held stay held, but for the end of (S,G,rpt) machines

  pub join_some : (m : Machine) → is_some (on_join start (Some m)) ≡ true
  unfolding on_join
  join_some m = by m.state
    where
      by : (s : State) → is_some (join_in s start m) ≡ true
      by state.Join = refl
      by state.PrunePending = refl
      by state.Prune = refl
      by state.PruneTmp = refl
      by state.PrunePendingTmp = refl

  pub prune_some : (m : Machine) → is_some (on_prune start (Some m)) ≡ true
  unfolding on_prune
  prune_some m = by m.state
    where
      by : (s : State) → is_some (prune_in s start m) ≡ true
      by state.Join = refl
      by state.PrunePending = refl
      by state.Prune = refl
      by state.PruneTmp = refl
      by state.PrunePendingTmp = refl

  pub rpt_prune_some : (held : Option Machine) → is_some (on_rpt_prune start held) ≡ true
  unfolding on_rpt_prune
  rpt_prune_some None = refl
  rpt_prune_some (Some m) = by m.state
    where
      by : (s : State) → is_some (rpt_prune_in s start m) ≡ true
      by state.Join = refl
      by state.PrunePending = refl
      by state.Prune = refl
      by state.PruneTmp = refl
      by state.PrunePendingTmp = refl

  pub star_some : (held : Option Machine) → is_some (on_star_join held) ≡ is_some held
  unfolding on_star_join
  star_some None = refl
  star_some (Some m) = by m.state
    where
      by : (s : State) → is_some (star_join_in s m) ≡ true
      by state.Join = refl
      by state.PrunePending = refl
      by state.Prune = refl
      by state.PruneTmp = refl
      by state.PrunePendingTmp = refl

  own_some : (event : Event) (m : Machine) → is_rpt event.what ≡ false → is_some (on_own event.joins event.what start (Some m)) ≡ true
  own_some event m plain = by event.joins event.what plain
    where
      by : (joins : Bool) (what : What (List ℕ)) → is_rpt what ≡ false → is_some (on_own joins what start (Some m)) ≡ true
      by true Star e = join_some m
      by true (Source source) e = join_some m
      by true (Rpt source) e = absurd (false≢true (sym e))
      by false Star e = prune_some m
      by false (Source source) e = prune_some m
      by false (Rpt source) e = absurd (false≢true (sym e))

  some_is : (held : Option Machine) → is_some held ≡ true → (P : Option Machine → Type 0) → ((m : Machine) → P (Some m)) → P held
  some_is None e P each = absurd (false≢true e)
  some_is (Some m) e P each = each m

  pub plain_some : (key : Key (List ℕ)) → is_rpt_on port key ≡ false → (events : List Event) (held : Option Machine) → is_some held ≡ true → is_some (effects port start events key held) ≡ true
  unfolding effects
  plain_some key plain [] held e = e
  plain_some key plain (event ∷ events) held e =
      plain_some key plain events (effect port start event key held)
      (by_effect (λ next. is_some next ≡ true) event key held
      (λ s. some_is held e (λ h. is_some (on_own event.joins event.what start h) ≡ true) (λ m. own_some event m (own_plain event key plain s)))
      (λ s j r. star_some held ∙ e)
      (λ s n. e))

  -- ---- an (S,G,rpt) machine is gone exactly if the last event that names it is a Join

  own_gone : (joins : Bool) (what : What (List ℕ)) (held : Option Machine) → is_rpt what ≡ true → is_some (on_own joins what start held) ≡ not joins
  own_gone true Star held e = absurd (false≢true e)
  own_gone true (Source source) held e = absurd (false≢true e)
  own_gone true (Rpt source) held e = refl
  own_gone false Star held e = absurd (false≢true e)
  own_gone false (Source source) held e = absurd (false≢true e)
  own_gone false (Rpt source) held e = rpt_prune_some held

  pub gone_joined : (key : Key (List ℕ)) → is_rpt_on port key ≡ true → (events : List Event) (held : Option Machine) (joins : Bool) → is_some held ≡ not joins
      → is_some (effects port start events key held) ≡ not (joins_after port key joins events)
  unfolding effects joins_after
  gone_joined key rpt [] held joins e = e
  gone_joined key rpt (event ∷ events) held joins e =
      gone_joined key rpt events (effect port start event key held) (cond (same_key (key_of port event) key) event.joins joins)
      (by_effect (λ next. is_some next ≡ not (cond (same_key (key_of port event) key) event.joins joins)) event key held
      (λ s. own_gone event.joins event.what held (own_rpt event key rpt s) ∙ ap (λ b. not (cond b event.joins joins)) (sym s))
      (λ s j r. star_some held ∙ e ∙ ap (λ b. not (cond b event.joins joins)) (sym s))
      (λ s n. e ∙ ap (λ b. not (cond b event.joins joins)) (sym s)))

  -- ---- what no event reaches stays

  star_none : on_star_join None ≡ None
  unfolding on_star_join
  star_none = refl

  none_is : (held : Option Machine) → is_some held ≡ false → held ≡ None
  none_is None e = refl
  none_is (Some m) e = absurd (false≢true (sym e))

  split_and : (a b c : Bool) → a ≡ true → b ≡ true → (a && (b && c)) ≡ false → c ≡ false
  split_and true true c s r e = e
  split_and true false c s r e = absurd (false≢true r)
  split_and false b c s r e = absurd (false≢true s)

  pub quiet : (key : Key (List ℕ)) (records : List (Record (List ℕ))) (events : List Event) → list_any (reaches port records key) events ≡ false
      → effects port start events key (machine_at key records) ≡ machine_at key records
  unfolding effects
  quiet key records [] none = refl
  quiet key records (event ∷ events) none =
      let held = machine_at key records in
      let parts = or_false (reaches port records key event) (list_any (reaches port records key) events) none in
      let this = or_false (same_key (key_of port event) key) (is_star_join event && (is_rpt_of port event.group key && is_some held)) parts.0 in
      let stays : effect port start event key held ≡ held = by_effect (λ next. next ≡ held) event key held
      (λ s. absurd (false≢true (sym this.0 ∙ s)))
      (λ s j r. let gone : held ≡ None = none_is held (split_and (is_star_join event) (is_rpt_of port event.group key) (is_some held) j r this.1) in ap on_star_join gone ∙ star_none ∙ sym gone)
      (λ s n. refl) in
      ap (effects port start events key) stays ∙ quiet key records events parts.1

  -- End of Message changes no machine but in a Tmp state
  end_stays : (m : Machine) → is_temporary m.state ≡ false → on_end (Some m) ≡ Some m
  unfolding on_end
  end_stays m settled = by m.state settled
    where
      by : (s : State) → is_temporary s ≡ false → end_in s m ≡ Some m
      by state.Join e = refl
      by state.PrunePending e = refl
      by state.Prune e = refl
      by state.PruneTmp e = absurd (false≢true (sym e))
      by state.PrunePendingTmp e = absurd (false≢true (sym e))

  end_none : on_end None ≡ None
  unfolding on_end
  end_none = refl

  settled_end : (key : Key (List ℕ)) (records : List (Record (List ℕ))) → IsSettled records → on_end (machine_at key records) ≡ machine_at key records
  unfolding machine_at IsSettled
  settled_end key [] settled = end_none
  settled_end key (held ∷ records) settled = by (same_key key held.key) (settled_end key records settled.1)
    where
      by : (b : Bool) → on_end (machine_at key records) ≡ machine_at key records → on_end (cond b (Some held.machine) (machine_at key records)) ≡ cond b (Some held.machine) (machine_at key records)
      by true rest = end_stays held.machine settled.0
      by false rest = rest

  pub end_quiet : (key : Key (List ℕ)) (records : List (Record (List ℕ))) → IsSettled records → at_end port key (machine_at key records) ≡ machine_at key records
  end_quiet key records settled = by (is_rpt_on port key)
    where
      by : (b : Bool) → cond b (on_end (machine_at key records)) (machine_at key records) ≡ machine_at key records
      by true = settled_end key records settled
      by false = refl
