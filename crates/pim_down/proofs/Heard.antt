-- A message that is heard keeps the machines sound, and leaves those of other ports as they are.
use Rattle.pim_down.proofs.Words.{◌≡◌, ◌≢◌, ℕ, ◌+◌, ◌≤◌, Bool, true, false, cond, ◌&&◌, List, [], ◌∷◌, ◌++◌, Option, Some, None, eqb, refl, sym, ap, subst, ◌∙◌, arith, Less, Equal, Greater, false≢true, eqb-true, eq-eqb, What, Star, Source, Rpt, Key, State, Join, PrunePending, Prune, PruneTmp, PrunePendingTmp, Machine, Start, Record, Event, key_cmp, same_key, join_in, on_join, prune_in, on_prune, on_star_join, on_rpt_prune, end_in, on_end, IsAscending, machine_at, recorded, at_rank, changed, each_changed, count_on, key_of, on_own, is_star_join, is_rpt_on, is_rpt_of, on_rpts, effect, act, act_all, at_end, hearing, count_new, is_temporary, IsSettled}
use Rattle.pim_down.proofs.Order.{same_keys, equal_keys}
use Rattle.pim_down.proofs.Act.{at_act, at_hearing_end, IsAscending-act, IsAscending-act_all}
use Rattle.pim_down.proofs.Room.{room_on, room_elsewhere}

-- ---- the Tmp states

-- It is in a Tmp state only if it is an (S,G,rpt) machine of the port.
abbrev IsCalm : ℕ → Key (List ℕ) → Option Machine → Type 0
IsCalm port key None = Unit {0}
IsCalm port key (Some machine) = is_temporary machine.state ≡ true → is_rpt_on port key ≡ true

AreCalm : ℕ → List (Record (List ℕ)) → Type 0
AreCalm port [] = Unit {0}
AreCalm port (held ∷ records) = IsCalm port held.key (Some held.machine) × AreCalm port records

calm_settled : (port : ℕ) (records : List (Record (List ℕ))) → IsSettled records → AreCalm port records
unfolding IsSettled AreCalm
calm_settled port [] s = tt
calm_settled port (held ∷ records) s = (λ e. absurd (false≢true (sym s.0 ∙ e)), calm_settled port records s.1)

calm_recorded : (port : ℕ) (key : Key (List ℕ)) (machine : Option Machine) (records : List (Record (List ℕ))) → IsCalm port key machine → AreCalm port records → AreCalm port (recorded key machine ++ records)
unfolding AreCalm
calm_recorded port key None records c cs = cs
calm_recorded port key (Some machine) records c cs = (c, cs)

calm_changed : (port : ℕ) (key : Key (List ℕ)) (change : Option Machine → Option Machine) (records : List (Record (List ℕ))) → ((m : Option Machine) → IsCalm port key m → IsCalm port key (change m)) → AreCalm port records → AreCalm port (changed key change records)
unfolding AreCalm changed
calm_changed port key change [] keeps cs = by (change None) (keeps None tt)
  where
    by : (m : Option Machine) → IsCalm port key m → AreCalm port (recorded key m)
    by None c = tt
    by (Some machine) c = (c, tt)
calm_changed port key change (held ∷ records) keeps cs =
    elim (key_cmp key held.key) as (λ r. key_cmp key held.key ≡ r → AreCalm port (at_rank r (recorded key (change None) ++ held ∷ records) (recorded held.key (change (Some held.machine)) ++ records) (held ∷ changed key change records))) [
      | Less ↦ λ e. calm_recorded port key (change None) (held ∷ records) (keeps None tt) cs
      | Equal ↦ λ e. calm_recorded port held.key (change (Some held.machine)) records (same e) cs.1
      | Greater ↦ λ e. (cs.0, calm_changed port key change records keeps cs.1)
    ] refl
  where
    same : key_cmp key held.key ≡ Equal → IsCalm port held.key (change (Some held.machine))
    same e =
        let is = equal_keys key held.key e in
        subst (λ (k : Key (List ℕ)). IsCalm port k (change (Some held.machine))) is (keeps (Some held.machine) (subst (λ (k : Key (List ℕ)). IsCalm port k (Some held.machine)) (sym is) cs.0))

calm_each : (port : ℕ) (change : Key (List ℕ) → Option Machine → Option Machine) (records : List (Record (List ℕ))) → ((key : Key (List ℕ)) (m : Option Machine) → IsCalm port key m → IsCalm port key (change key m)) → AreCalm port records → AreCalm port (each_changed change records)
unfolding AreCalm each_changed
calm_each port change [] keeps cs = tt
calm_each port change (held ∷ records) keeps cs =
    calm_recorded port held.key (change held.key (Some held.machine)) (each_changed change records) (keeps held.key (Some held.machine) cs.0) (calm_each port change records keeps cs.1)

-- on an (S,G,rpt) machine of the port any state is calm
calm_rpt : (port : ℕ) (key : Key (List ℕ)) (m : Option Machine) → is_rpt_on port key ≡ true → IsCalm port key m
calm_rpt port key None e = tt
calm_rpt port key (Some machine) e = λ t. e

port_itself : (n : ℕ) → eqb n n ≡ true
port_itself n = eq-eqb n n refl

calm_join : (port : ℕ) (key : Key (List ℕ)) (start : Start) (m : Option Machine) → IsCalm port key m → IsCalm port key (on_join start m)
unfolding on_join
calm_join port key start None c = λ e. absurd (false≢true e)
calm_join port key start (Some held) c = by held.state
  where
    by : (s : State) → IsCalm port key (join_in s start held)
    by Join = λ e. absurd (false≢true e)
    by PrunePending = λ e. absurd (false≢true e)
    by Prune = c
    by PruneTmp = c
    by PrunePendingTmp = c

calm_prune : (port : ℕ) (key : Key (List ℕ)) (start : Start) (m : Option Machine) → IsCalm port key m → IsCalm port key (on_prune start m)
unfolding on_prune
calm_prune port key start None c = tt
calm_prune port key start (Some held) c = by held.state
  where
    by : (s : State) → IsCalm port key (prune_in s start held)
    by Join = λ e. absurd (false≢true e)
    by PrunePending = c
    by Prune = c
    by PruneTmp = c
    by PrunePendingTmp = c

calm_own : (port : ℕ) (start : Start) (group : List ℕ) (joins : Bool) (what : What (List ℕ)) (m : Option Machine) → IsCalm port (record { port = port; group = group; what = what }) m → IsCalm port (record { port = port; group = group; what = what }) (on_own joins what start m)
calm_own port start group true Star m c = calm_join port (record { port = port; group = group; what = Star }) start m c
calm_own port start group true (Source s) m c = calm_join port (record { port = port; group = group; what = Source s }) start m c
calm_own port start group true (Rpt s) m c = tt
calm_own port start group false Star m c = calm_prune port (record { port = port; group = group; what = Star }) start m c
calm_own port start group false (Source s) m c = calm_prune port (record { port = port; group = group; what = Source s }) start m c
calm_own port start group false (Rpt s) m c = calm_rpt port (record { port = port; group = group; what = Rpt s }) (on_rpt_prune start m) (rw (port_itself port) refl)

first_true : (a b : Bool) → (a && b) ≡ true → a ≡ true
first_true true b e = refl
first_true false b e = e

calm_rpts : (port : ℕ) (group : List ℕ) (key : Key (List ℕ)) (m : Option Machine) → IsCalm port key m → IsCalm port key (on_rpts port group key m)
calm_rpts port group key m c =
    elim (is_rpt_of port group key) as (λ b. is_rpt_of port group key ≡ b → IsCalm port key (cond b (on_star_join m) m)) [
      | true ↦ λ e. calm_rpt port key (on_star_join m) (first_true (is_rpt_on port key) _ e)
      | false ↦ λ e. c
    ] refl

calm_act : (port : ℕ) (start : Start) (event : Event) (records : List (Record (List ℕ))) → AreCalm port records → AreCalm port (act port start event records)
calm_act port start event records cs =
    let own = changed (key_of port event) (on_own event.joins event.what start) records in
    let after = calm_changed port (key_of port event) (on_own event.joins event.what start) records (calm_own port start event.group event.joins event.what) cs in
    elim (is_star_join event) as (λ s. AreCalm port (cond s (each_changed (on_rpts port event.group) own) own)) [
      | true ↦ calm_each port (on_rpts port event.group) own (calm_rpts port event.group) after
      | false ↦ after
    ]

calm_all : (port : ℕ) (start : Start) (events : List Event) (records : List (Record (List ℕ))) → AreCalm port records → AreCalm port (act_all port start events records)
unfolding act_all
calm_all port start [] records cs = cs
calm_all port start (event ∷ events) records cs = calm_all port start events (act port start event records) (calm_act port start event records cs)

abbrev IsOutOfTmp : Option Machine → Type 0
IsOutOfTmp None = Unit {0}
IsOutOfTmp (Some machine) = is_temporary machine.state ≡ false

out_end : (held : Machine) → IsOutOfTmp (on_end (Some held))
unfolding on_end
out_end held = by held.state refl
  where
    by : (s : State) → held.state ≡ s → IsOutOfTmp (end_in s held)
    by Join e = ap is_temporary e
    by PrunePending e = ap is_temporary e
    by Prune e = ap is_temporary e
    by PruneTmp e = tt
    by PrunePendingTmp e = tt

out_at_end : (port : ℕ) (key : Key (List ℕ)) (machine : Machine) → IsCalm port key (Some machine) → IsOutOfTmp (at_end port key (Some machine))
out_at_end port key machine c =
    elim (is_rpt_on port key) as (λ b. is_rpt_on port key ≡ b → IsOutOfTmp (cond b (on_end (Some machine)) (Some machine))) [
      | true ↦ λ e. out_end machine
      | false ↦ λ e. by (is_temporary machine.state) refl e
    ] refl
  where
    by : (t : Bool) → is_temporary machine.state ≡ t → is_rpt_on port key ≡ false → is_temporary machine.state ≡ false
    by true t e = absurd (false≢true (sym e ∙ c t))
    by false t e = t

settled_recorded : (key : Key (List ℕ)) (machine : Option Machine) (records : List (Record (List ℕ))) → IsOutOfTmp machine → IsSettled records → IsSettled (recorded key machine ++ records)
unfolding IsSettled
settled_recorded key None records o s = s
settled_recorded key (Some machine) records o s = (o, s)

settled_end : (port : ℕ) (records : List (Record (List ℕ))) → AreCalm port records → IsSettled (each_changed (at_end port) records)
unfolding AreCalm IsSettled each_changed
settled_end port [] cs = tt
settled_end port (held ∷ records) cs =
    settled_recorded held.key (at_end port held.key (Some held.machine)) (each_changed (at_end port) records) (out_at_end port held.key held.machine cs.0) (settled_end port records cs.1)

pub settled_hearing : (port : ℕ) (start : Start) (events : List Event) (records : List (Record (List ℕ))) → IsSettled records → IsSettled (hearing port start events records)
settled_hearing port start events records s = settled_end port (act_all port start events records) (calm_all port start events records (calm_settled port records s))

-- ---- the limit

fewer_recorded : (port : ℕ) (held : Record (List ℕ)) (m : Option Machine) (after records : List (Record (List ℕ))) → count_on port after ≤ count_on port records → count_on port (recorded held.key m ++ after) ≤ count_on port (held ∷ records)
unfolding count_on
fewer_recorded port held None after records le = omega arith
fewer_recorded port held (Some machine) after records le = omega arith

fewer_each : (port : ℕ) (change : Key (List ℕ) → Option Machine → Option Machine) (records : List (Record (List ℕ))) → count_on port (each_changed change records) ≤ count_on port records
unfolding each_changed
fewer_each port change [] = omega arith
fewer_each port change (held ∷ records) = fewer_recorded port held (change held.key (Some held.machine)) (each_changed change records) records (fewer_each port change records)

pub within_hearing : (port other limit : ℕ) (start : Start) (events : List Event) (records : List (Record (List ℕ))) → IsAscending records → count_on port records + count_new port records events ≤ limit → count_on other records ≤ limit → count_on other (hearing port start events records) ≤ limit
within_hearing port other limit start events records a room held =
    let ascending = IsAscending-act_all port start events records a in
    let fewer = fewer_each other (at_end port) (act_all port start events records) in
    elim (eqb port other) as (λ b. eqb port other ≡ b → count_on other (hearing port start events records) ≤ limit) [
      | true ↦ λ e.
          let here = subst (λ (n : ℕ). count_on n (act_all port start events records) ≤ count_on port records + count_new port records events) (eqb-true port other e) (room_on port start events records a ascending) in
          omega arith
      | false ↦ λ e.
          let there = room_elsewhere port other start events records e a ascending in
          omega arith
    ] refl

-- ---- other ports

other_port : (port : ℕ) (key : Key (List ℕ)) → key.port ≢ port → eqb key.port port ≡ false
other_port port key differs = by (eqb key.port port) refl
  where
    by : (b : Bool) → eqb key.port port ≡ b → eqb key.port port ≡ false
    by true e = absurd (differs (eqb-true key.port port e))
    by false e = e

effect_elsewhere : (port : ℕ) (start : Start) (event : Event) (key : Key (List ℕ)) (m : Option Machine) → key.port ≢ port → effect port start event key m ≡ m
effect_elsewhere port start event key m differs = by (same_key (key_of port event) key) refl
  where
    rpts : on_rpts port event.group key m ≡ m
    rpts = rw (other_port port key differs) refl

    by : (b : Bool) → same_key (key_of port event) key ≡ b → cond b (on_own event.joins event.what start m) (cond (is_star_join event) (on_rpts port event.group key m) m) ≡ m
    by true e = absurd (differs (ap (λ (k : Key (List ℕ)). k.port) (sym (same_keys (key_of port event) key e))))
    by false e = elim (is_star_join event) as (λ s. cond s (on_rpts port event.group key m) m ≡ m) [ true ↦ rpts | false ↦ refl ]

all_elsewhere : (port : ℕ) (start : Start) (events : List Event) (records : List (Record (List ℕ))) (key : Key (List ℕ)) → IsAscending records → key.port ≢ port → machine_at key (act_all port start events records) ≡ machine_at key records
unfolding act_all
all_elsewhere port start [] records key a differs = refl
all_elsewhere port start (event ∷ events) records key a differs =
    all_elsewhere port start events (act port start event records) key (IsAscending-act port start event records a) differs
    ∙ at_act port start event records a key
    ∙ effect_elsewhere port start event key (machine_at key records) differs

pub hearing_elsewhere : (port : ℕ) (start : Start) (events : List Event) (records : List (Record (List ℕ))) (key : Key (List ℕ)) → IsAscending records → key.port ≢ port → machine_at key (hearing port start events records) ≡ machine_at key records
hearing_elsewhere port start events records key a differs =
    let after = act_all port start events records in
    at_hearing_end port after (IsAscending-act_all port start events records a) key
    ∙ end_elsewhere (machine_at key after)
    ∙ all_elsewhere port start events records key a differs
  where
    end_elsewhere : (m : Option Machine) → at_end port key m ≡ m
    end_elsewhere m = rw (other_port port key differs) refl
