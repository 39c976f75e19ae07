-- Time keeps the machines sound.
use Rattle.pim_down.proofs.Words.{◌≡◌, ℕ, zero, suc, ◌+◌, ◌≤◌, Bool, true, false, cond, List, [], ◌∷◌, ◌++◌, Option, Some, None, option_map, map, ltb, refl, sym, ap, subst, ◌∙◌, arith, ltb-true, AllByRecursion, AddressFamily, Held, What, Star, Source, Rpt, Key, Machine, Record, Step, Reached, Echo, same_key, IsBelow, IsAscending, machine_at, recorded, count_on, state_of_machine, state_of, downstream_at, Downstream, record_after, machine_after, tick, on_ppt, after_et, after_ppt, et_due, ppt_due, first_due, with_first, fire_et, fire_ppt, fired, echo_of, Outcome, rests, moves, echoes, with_records, reported, turn_by, turn, run_on, run_within, Runs, is_temporary, IsSettled, IsReal, IsSound, records_seen, shown}
use Rattle.pim_down.proofs.Real.{real_later, real_ppt}
use Rattle.pim_down.proofs.Map.{IsBelow-recorded, IsAscending-recorded}

-- what is kept of a list of records, where all ports are looked at together
pub record Kept (old new : List (Record (List ℕ))) : Type 0 where
  pub below : (key : Key (List ℕ)) → IsBelow key old → IsBelow key new
  pub ascending : IsAscending old → IsAscending new
  pub settled : IsSettled old → IsSettled new
  pub real : (family : AddressFamily) (ports : ℕ) → AllByRecursion (IsReal family ports) old → AllByRecursion (IsReal family ports) new
  pub fewer : (port : ℕ) → count_on port new ≤ count_on port old

-- ---- a millisecond

pub kept_later : (k : ℕ) (records : List (Record (List ℕ))) → Kept records (map (record_after k) records)
unfolding IsBelow IsAscending IsSettled count_on
kept_later k [] = record { below = λ key b. tt; ascending = λ a. tt; settled = λ s. tt; real = λ family ports rs. rs; fewer = λ port. omega arith }
kept_later k (held ∷ records) =
    let rest = kept_later k records in
    record {
      below = λ key b. (b.0, rest.below key b.1);
      ascending = λ a. (rest.below held.key a.0, rest.ascending a.1);
      settled = λ s. (s.0, rest.settled s.1);
      real = λ family ports. real_later family ports k (held ∷ records);
      fewer = λ port. let f = rest.fewer port in omega arith;
    }

-- and back
pub below_any : (k : ℕ) (key : Key (List ℕ)) (records : List (Record (List ℕ))) → IsBelow key (map (record_after k) records) → IsBelow key records
unfolding IsBelow
below_any k key [] b = tt
below_any k key (held ∷ records) b = (b.0, below_any k key records b.1)

pub ascending_back : (k : ℕ) (records : List (Record (List ℕ))) → IsAscending (map (record_after k) records) → IsAscending records
unfolding IsAscending
ascending_back k [] a = tt
ascending_back k (held ∷ records) a = (below_any k held.key records a.0, ascending_back k records a.1)

pub settled_back : (k : ℕ) (records : List (Record (List ℕ))) → IsSettled (map (record_after k) records) → IsSettled records
unfolding IsSettled
settled_back k [] s = tt
settled_back k (held ∷ records) s = (s.0, settled_back k records s.1)

-- ---- a timer fires

abbrev stays_settled : Option Machine → Type 0
stays_settled None = Unit {0}
stays_settled (Some machine) = is_temporary machine.state ≡ false

-- the record that a change leaves is real where the one before was
StaysReal : (Record (List ℕ) → Option Machine) → Type 0
StaysReal change = (family : AddressFamily) (ports : ℕ) (held : Record (List ℕ)) → IsReal family ports held → (records : List (Record (List ℕ))) → AllByRecursion (IsReal family ports) records → AllByRecursion (IsReal family ports) (recorded held.key (change held) ++ records)

kept_first : (due : Record (List ℕ) → Bool) (change : Record (List ℕ) → Option Machine) (records : List (Record (List ℕ))) → ((held : Record (List ℕ)) → stays_settled (change held)) → StaysReal change → Kept records (with_first due (λ (held : Record (List ℕ)). recorded held.key (change held)) records)
unfolding IsBelow IsAscending IsSettled count_on with_first StaysReal
kept_first due change [] quiet real = record { below = λ key b. tt; ascending = λ a. tt; settled = λ s. tt; real = λ family ports rs. rs; fewer = λ port. omega arith }
kept_first due change (held ∷ records) quiet real =
    elim (due held) as (λ b. Kept (held ∷ records) (cond b (recorded held.key (change held) ++ records) (held ∷ with_first due (λ (h : Record (List ℕ)). recorded h.key (change h)) records))) [
      | true ↦ record {
        below = λ key b. IsBelow-recorded key held.key (change held) records b.0 b.1;
        ascending = λ a. IsAscending-recorded held.key (change held) records a.0 a.1;
        settled = λ s. settled_recorded (change held) (quiet held) s.1;
        real = λ family ports rs. real family ports held rs.0 records rs.1;
        fewer = λ port. fewer_recorded port (change held);
      }
      | false ↦ let rest = kept_first due change records quiet real in record {
        below = λ key b. (b.0, rest.below key b.1);
        ascending = λ a. (rest.below held.key a.0, rest.ascending a.1);
        settled = λ s. (s.0, rest.settled s.1);
        real = λ family ports rs. (rs.0, rest.real family ports rs.1);
        fewer = λ port. let f = rest.fewer port in omega arith;
      }
    ]
  where
    settled_recorded : (o : Option Machine) → stays_settled o → IsSettled records → IsSettled (recorded held.key o ++ records)
    settled_recorded None q s = s
    settled_recorded (Some machine) q s = (q, s)

    fewer_recorded : (port : ℕ) (o : Option Machine) → count_on port (recorded held.key o ++ records) ≤ count_on port (held ∷ records)
    fewer_recorded port None = omega arith
    fewer_recorded port (Some machine) = omega arith

settled_ppt : (held : Record (List ℕ)) → stays_settled (on_ppt held.key.what held.machine)
settled_ppt held = by held.key.what
  where
    by : (what : What (List ℕ)) → stays_settled (on_ppt what held.machine)
    by Star = tt
    by (Source source) = tt
    by (Rpt source) = refl

none_real : StaysReal (λ (h : Record (List ℕ)). None)
unfolding StaysReal
none_real family ports held r records rs = rs

ppt_real : StaysReal (λ (h : Record (List ℕ)). on_ppt h.key.what h.machine)
unfolding StaysReal
ppt_real family ports held r records rs = real_ppt family ports held r records rs

kept_none : (records after : List (Record (List ℕ))) (answer : Step (List ℕ)) → ◌≡◌ {A = Option (Step (List ℕ) × List (Record (List ℕ)))} None (Some (answer, after)) → Kept records after
kept_none records after answer e = absurd (never e)
  where
    never : ◌≡◌ {A = Option (Step (List ℕ) × List (Record (List ℕ)))} None (Some (answer, after)) → ⊥
    never f = cc

kept_pair : (records new after : List (Record (List ℕ))) (step answer : Step (List ℕ)) → ◌≡◌ {A = Option (Step (List ℕ) × List (Record (List ℕ)))} (Some (step, new)) (Some (answer, after)) → Kept records new → Kept records after
kept_pair records new after step answer e kept =
    let pairs : ◌≡◌ {A = Step (List ℕ) × List (Record (List ℕ))} (step, new) (answer, after) = cc in
    subst (Kept records) (ap (λ (x : Step (List ℕ) × List (Record (List ℕ))). x.1) pairs) kept

pub kept_fired : (records after : List (Record (List ℕ))) (answer : Step (List ℕ)) → fired records ≡ Some (answer, after) → Kept records after
unfolding fired
kept_fired records after answer e = by_ppt (first_due ppt_due records) e
  where
    by_et : (o : Option (Record (List ℕ))) → fire_et records o ≡ Some (answer, after) → Kept records after
    by_et None f = kept_none records after answer f
    by_et (Some held) f = kept_pair records (with_first et_due after_et records) after Reached answer f (kept_first et_due (λ (h : Record (List ℕ)). None) records (λ h. tt) none_real)

    by_ppt : (o : Option (Record (List ℕ))) → fire_ppt records o ≡ Some (answer, after) → Kept records after
    by_ppt None f = by_et (first_due et_due records) f
    by_ppt (Some held) f = kept_pair records (with_first ppt_due after_ppt records) after (echo_of held) answer f (kept_first ppt_due (λ (h : Record (List ℕ)). on_ppt h.key.what h.machine) records settled_ppt ppt_real)

-- ---- a run

pub sound_kept : (family : AddressFamily) (state : Downstream) (moment : ℕ) (records : List (Record (List ℕ))) → moment ≤ 1000000000000000 → Kept state.records records → IsSound family state → IsSound family (record { ports = state.ports; limit = state.limit; moment = moment; records = records })
sound_kept family state moment records small kept sound = record {
  ports = sound.ports;
  limit = sound.limit;
  moment = small;
  ascending = kept.ascending sound.ascending;
  settled = kept.settled sound.settled;
  real = kept.real family state.ports sound.real;
  within = λ port. let f = kept.fewer port in let w = sound.within port in omega arith;
}

abbrev SoundThen : AddressFamily → Outcome → Type 0
SoundThen family rests = Unit {0}
SoundThen family (moves next) = IsSound family next
SoundThen family (echoes echo next) = IsSound family next

sound_told : (family : AddressFamily) (answer : Step (List ℕ)) (next : Downstream) → IsSound family next → SoundThen family (reported answer next)
sound_told family Reached next sound = sound
sound_told family (Echo port group what) next sound = sound

sound_turn : (family : AddressFamily) (moment : ℕ) (state : Downstream) → moment ≤ 1000000000000000 → IsSound family state → SoundThen family (turn moment state)
unfolding turn
sound_turn family moment state small sound = by (fired state.records) refl
  where
    passes : (b : Bool) → ltb state.moment moment ≡ b → SoundThen family (cond b (moves (tick state)) rests)
    passes true e = let lt = ltb-true state.moment moment e in sound_kept family state (state.moment + 1) (map (record_after 1) state.records) (omega arith) (kept_later 1 state.records) sound
    passes false e = tt

    by : (o : Option (Step (List ℕ) × List (Record (List ℕ)))) → fired state.records ≡ o → SoundThen family (turn_by moment state o)
    by None e = passes (ltb state.moment moment) refl
    by (Some (answer, records)) e = sound_told family answer (with_records state records) (sound_kept family state state.moment records sound.moment (kept_fired state.records records answer e) sound)

pair_sound : (family : AddressFamily) (state after : Downstream) (step answer : Step (List ℕ)) → ◌≡◌ {A = Option (Step (List ℕ) × Downstream)} (Some (step, state)) (Some (answer, after)) → IsSound family state → IsSound family after
pair_sound family state after step answer e sound =
    let pairs : ◌≡◌ {A = Step (List ℕ) × Downstream} (step, state) (answer, after) = cc in
    subst (IsSound family) (ap (λ (x : Step (List ℕ) × Downstream). x.1) pairs) sound

no_run : (answer : Step (List ℕ)) (after : Downstream) → ◌≡◌ {A = Option (Step (List ℕ) × Downstream)} None (Some (answer, after)) → ⊥
no_run answer after e = cc

sound_on : (family : AddressFamily) (outcome : Outcome) (turns moment : ℕ) (state after : Downstream) (answer : Step (List ℕ)) → ((next : Downstream) → IsSound family next → run_within turns moment next ≡ Some (answer, after) → IsSound family after) → IsSound family state → SoundThen family outcome → run_on outcome state (run_within turns moment) ≡ Some (answer, after) → IsSound family after
sound_on family rests turns moment state after answer more sound s f = pair_sound family state after Reached answer f sound
sound_on family (moves next) turns moment state after answer more sound s f = more next s f
sound_on family (echoes echo next) turns moment state after answer more sound s f = pair_sound family next after echo answer f s

sound_within : (family : AddressFamily) (turns moment : ℕ) (state after : Downstream) (answer : Step (List ℕ)) → moment ≤ 1000000000000000 → IsSound family state → run_within turns moment state ≡ Some (answer, after) → IsSound family after
unfolding run_within
sound_within family zero moment state after answer small sound e = absurd (no_run answer after e)
sound_within family (suc turns) moment state after answer small sound e =
    sound_on family (turn moment state) turns moment state after answer (λ next s f. sound_within family turns moment next after answer small s f) sound (sound_turn family moment state small sound) e

pub sound_runs : (family : AddressFamily) (moment : ℕ) (state after : Downstream) (answer : Step (List ℕ)) → moment ≤ 1000000000000000 → IsSound family state → Runs moment state answer after → IsSound family after
sound_runs family moment state after answer small sound runs = sound_within family runs.turns moment state after answer small sound runs.within

-- ---- what callers see

machine_state_later : (k : ℕ) (key : Key (List ℕ)) (records : List (Record (List ℕ))) → state_of key (map (record_after k) records) ≡ state_of key records
unfolding machine_at
machine_state_later k key [] = refl
machine_state_later k key (held ∷ records) =
    elim (same_key key held.key) as (λ b. state_of_machine (cond b (Some (machine_after k held.machine)) (machine_at key (map (record_after k) records))) ≡ state_of_machine (cond b (Some held.machine) (machine_at key records))) [
      | true ↦ refl
      | false ↦ machine_state_later k key records
    ]

-- a state looked up in records whose times count from the moment 0
pub state_seen : (k : ℕ) (key : Key (List ℕ)) (records : List (Record (List ℕ))) (state : Downstream) (machine : Option Machine) → state.records ≡ map (record_after k) records → machine ≡ machine_at key records → state_of_machine machine ≡ state_of key state.records
state_seen k key records state machine seen at =
    ap state_of_machine at ∙ sym (machine_state_later k key records) ∙ ap (state_of key) (sym seen)

-- a machine looked up in such records, with the time that is left at this moment
pub machine_later : (k : ℕ) (key : Key (List ℕ)) (records : List (Record (List ℕ))) → machine_at key (map (record_after k) records) ≡ option_map (machine_after k) (machine_at key records)
unfolding machine_at
machine_later k key [] = refl
machine_later k key (held ∷ records) =
    elim (same_key key held.key) as (λ b. cond b (Some (machine_after k held.machine)) (machine_at key (map (record_after k) records)) ≡ option_map (machine_after k) (cond b (Some held.machine) (machine_at key records))) [
      | true ↦ refl
      | false ↦ machine_later k key records
    ]

pub machine_shown : (k : ℕ) (key : Key (List ℕ)) (records : List (Record (List ℕ))) (state : Downstream) (machine : Option Machine) → state.records ≡ map (record_after k) records → machine ≡ machine_at key records → option_map (machine_after k) machine ≡ machine_at key state.records
machine_shown k key records state machine seen at =
    ap (option_map (machine_after k)) at ∙ sym (machine_later k key records) ∙ ap (machine_at key) (sym seen)

pub sound_at_first : (family : AddressFamily) {A : Type 0} (bytes_of : A → List ℕ) (ports limit : ℕ) (records : List (Held A)) → records ≡ [] → ports ≤ 64 → limit ≤ 100000 → IsSound family (downstream_at bytes_of ports limit 0 records)
unfolding IsAscending IsSettled count_on
sound_at_first family {A} bytes_of ports limit records none small_ports small_limit = subst (λ (rs : List (Held A)). IsSound family (downstream_at bytes_of ports limit 0 rs)) (sym none) (empty ports limit small_ports small_limit)
  where
    empty : (ports limit : ℕ) → ports ≤ 64 → limit ≤ 100000 → IsSound family (record { ports = ports; limit = limit; moment = 0; records = [] })
    empty ports limit p l = record { ports = p; limit = l; moment = omega arith; ascending = tt; settled = tt; real = tt; within = λ port. omega arith }

-- the order of records after a timer has fired
module _ {A : Type 0} (bytes_of : A → List ℕ) (now : ℕ) where
  pub still_ascending : (records left : List (Held A)) (step : Step (List ℕ)) → fired (shown bytes_of now records) ≡ Some (step, shown bytes_of now left) → IsAscending (records_seen bytes_of records) → IsAscending (records_seen bytes_of left)
  still_ascending records left step e a =
      ascending_back now (records_seen bytes_of left) ((kept_fired (shown bytes_of now records) (shown bytes_of now left) step e).ascending ((kept_later now (records_seen bytes_of records)).ascending a))
