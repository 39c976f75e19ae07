-- Who hears the writer hears it still while none of its neighbours' times is over.
use Rattle.pim_mirror.proofs.Words.{◌≡◌, ◌∙◌, ℕ, zero, suc, ◌+◌, ◌-◌, ◌≤◌, Bool, true, false, ◌==◌, not, if◌then◌else◌, nat_lt}
use Rattle.pim_mirror.proofs.Words.{filter, List, [], ◌∷◌, map, length, Option, None, Some, option_map, slice_index_or, refl, sym}
use Rattle.pim_mirror.proofs.Words.{ap, ap₂, subst, arith, is_some, AllByRecursion, list_any, ltb-true, eqb-true}
use Rattle.pim_mirror.proofs.Words.{jp_override_interval, Timing, Record, fired, with_records, Writing, IsShorter, Step, Echo}
use Rattle.pim_mirror.proofs.Words.{Refresh, Reached, RouterReport, echo, refresh, verdict, Reaches, RouterState, with_machines}
use Rattle.pim_mirror.proofs.Words.{with_refresh, refresh_period, port_at, has_ended, tick, moves, rests, stops_with}
use Rattle.pim_mirror.proofs.Words.{turn_of_time, turn_of_refresh, turn_of_timers, turn, run_on, run_within, Runs, Lasts}
use Rattle.pim_mirror.proofs.Words.{HearsWriter, WriterStaysHeard}
use Rattle.pim_hello.specs.Neighbours.{Neighbour, Table, no_neighbours, neighbour_at, is_address, hellos_of, waited, passed_to, is_over, without_ended}
use Rattle.pim_down.specs.declared.machines.step.Step.{Step as Fires}
use Rattle.pim_down.specs.declared.machines.step.Step.TheVariants as fires

abbrev Entry : Type 0
Entry = List ℕ × Neighbour

-- ---- nobody goes

not_over : (passed : ℕ) (left : Option ℕ) → IsShorter passed left → is_over left ≡ false
not_over passed None short = refl
not_over passed (Some left) short = by (left == 0) refl
  where
    by : (b : Bool) → (left == 0) ≡ b → b ≡ false
    by false e = refl
    by true e =
        let none : left ≡ 0 = eqb-true left 0 e in
        absurd (omega (arith, none, short))

unfoldable pub AllLast : ℕ → List Entry → Type 0
AllLast passed entries = AllByRecursion (λ (entry : Entry). IsShorter passed entry.1.left) entries

pub all_stay : (passed : ℕ) (entries : List Entry) → AllLast passed entries → filter (λ (entry : Entry). not (is_over entry.1.left)) entries ≡ entries
unfolding AllLast
all_stay passed [] short = refl
all_stay passed (entry ∷ entries) short = rw (not_over passed entry.1.left short.0) (ap (λ (es : List Entry). entry ∷ es) (all_stay passed entries short.1))

none_ended : (passed : ℕ) (entries : List Entry) → AllLast passed entries → list_any (λ (entry : Entry). is_over entry.1.left) entries ≡ false
unfolding AllLast
none_ended passed [] short = refl
none_ended passed (entry ∷ entries) short = rw (not_over passed entry.1.left short.0) (none_ended passed entries short.1)

TablesLast : ℕ → List Table → Type 0
TablesLast passed tables = AllByRecursion (λ (table : Table). AllLast passed table.entries) tables

none_has_ended : (passed : ℕ) (tables : List Table) → TablesLast passed tables → list_any has_ended tables ≡ false
unfolding TablesLast
none_has_ended passed [] short = refl
none_has_ended passed (table ∷ tables) short = rw (none_ended passed table.entries short.0) (none_has_ended passed tables short.1)

-- ---- a millisecond

later : ℕ → Entry → Entry
later passed entry = (entry.0, waited passed entry.1)

shorter_later : (passed : ℕ) (left : Option ℕ) → 1 ≤ passed → IsShorter passed left → IsShorter (passed - 1) (option_map (λ (left : ℕ). left - 1) left)
shorter_later passed None some short = tt
shorter_later passed (Some left) some short = omega (arith, some, short)

last_later : (passed : ℕ) (entries : List Entry) → 1 ≤ passed → AllLast passed entries → AllLast (passed - 1) (map (later 1) entries)
unfolding AllLast later
last_later passed [] some short = tt
last_later passed (entry ∷ entries) some short = (shorter_later passed entry.1.left some short.0, last_later passed entries some short.1)

-- what a port knows of its neighbours but for their time
record SameNeighbours (one other : Table) : Type 0 where
  hellos : hellos_of one ≡ hellos_of other
  count : length one.entries ≡ length other.entries
  known : (address : List ℕ) → is_some (neighbour_at address one) ≡ is_some (neighbour_at address other)

same_hellos : (entries : List Entry) → map (λ (entry : Entry). entry.1.parameters) (map (later 1) entries) ≡ map (λ (entry : Entry). entry.1.parameters) entries
unfolding later
same_hellos [] = refl
same_hellos (entry ∷ entries) = ap (λ hellos. entry.1.parameters ∷ hellos) (same_hellos entries)

same_count : (entries : List Entry) → length (map (later 1) entries) ≡ length entries
same_count [] = refl
same_count (entry ∷ entries) = ap suc (same_count entries)

same_known : (moment : ℕ) (address : List ℕ) (entries : List Entry) → is_some (neighbour_at address (record { moment = moment; entries = map (later 1) entries })) ≡ is_some (neighbour_at address (record { moment = moment; entries = entries }))
unfolding later
same_known moment address [] = refl
same_known moment address (entry ∷ entries) =
    elim (is_address address entry.0) as (λ b. is_some (if b then Some (waited 1 entry.1) else neighbour_at address (record { moment = moment; entries = map (later 1) entries }))
    ≡ is_some (if b then Some entry.1 else neighbour_at address (record { moment = moment; entries = entries }))) [
      | true ↦ refl
      | false ↦ same_known moment address entries
    ]

same_entries : (m n : ℕ) (entries one other : List Entry) → one ≡ map (later 1) entries → other ≡ entries → SameNeighbours (record { moment = m; entries = one }) (record { moment = n; entries = other })
same_entries m n entries one other e f = record {
  hellos = ap (λ (es : List Entry). map (λ (entry : Entry). entry.1.parameters) es) e ∙ same_hellos entries ∙ ap (λ (es : List Entry). map (λ (entry : Entry). entry.1.parameters) es) (sym f);
  count = ap length e ∙ same_count entries ∙ ap length (sym f);
  known = λ address.
      ap (λ (es : List Entry). is_some (neighbour_at address (record { moment = m; entries = es }))) e ∙ same_known m address entries
      ∙ ap (λ (es : List Entry). is_some (neighbour_at address (record { moment = n; entries = es }))) (sym f);
}

one_passes : (moment : ℕ) (table : Table) → table.moment ≡ moment → (moment + 1) - table.moment ≡ 1
one_passes moment table now = omega (arith, now)

entries_later : (moment : ℕ) (table : Table) → table.moment ≡ moment → (passed_to (moment + 1) table).entries ≡ map (later 1) table.entries
unfolding later
entries_later moment table now = ap (λ (n : ℕ). map (λ (entry : Entry). (entry.0, waited n entry.1)) table.entries) (one_passes moment table now)

table_last : (moment passed : ℕ) (table : Table) → table.moment ≡ moment → 1 ≤ passed → AllLast passed table.entries → AllLast (passed - 1) (passed_to (moment + 1) table).entries
table_last moment passed table now some short = subst (AllLast (passed - 1)) (sym (entries_later moment table now)) (last_later passed table.entries some short)

same_table : (moment passed : ℕ) (table : Table) → table.moment ≡ moment → 1 ≤ passed → AllLast passed table.entries → SameNeighbours (without_ended (passed_to (moment + 1) table)) (without_ended table)
same_table moment passed table now some short =
    same_entries (passed_to (moment + 1) table).moment table.moment table.entries (without_ended (passed_to (moment + 1) table)).entries (without_ended table).entries
    (all_stay (passed - 1) (passed_to (moment + 1) table).entries (table_last moment passed table now some short) ∙ entries_later moment table now)
    (all_stay passed table.entries short)

abbrev AllAt : ℕ → List Table → Type 0
AllAt moment tables = AllByRecursion (λ (table : Table). table.moment ≡ moment) tables

same_at : (moment passed port : ℕ) (tables : List Table) → AllAt moment tables → 1 ≤ passed → TablesLast passed tables
    → SameNeighbours (without_ended (slice_index_or (map (passed_to (moment + 1)) tables) port no_neighbours)) (without_ended (slice_index_or tables port no_neighbours))
unfolding TablesLast
same_at moment passed port [] now some short = record { hellos = refl; count = refl; known = λ address. refl }
same_at moment passed zero (table ∷ tables) now some short = same_table moment passed table now.0 some short.0
same_at moment passed (suc port) (table ∷ tables) now some short = same_at moment passed port tables now.1 some short.1

all_at_later : (moment : ℕ) (tables : List Table) → AllAt moment tables → AllAt (moment + 1) (map (passed_to (moment + 1)) tables)
all_at_later moment [] now = tt
all_at_later moment (table ∷ tables) now =
    let here : table.moment ≡ moment = now.0 in
    (omega (arith, here), all_at_later moment tables now.1)

tables_later : (moment passed : ℕ) (tables : List Table) → AllAt moment tables → 1 ≤ passed → TablesLast passed tables → TablesLast (passed - 1) (map (passed_to (moment + 1)) tables)
unfolding TablesLast
tables_later moment passed [] now some short = tt
tables_later moment passed (table ∷ tables) now some short = (table_last moment passed table now.0 some short.0, tables_later moment passed tables now.1 some short.1)

-- ---- the router

module _ (writing : Writing) (port : ℕ) (timing : Timing) (moment last : ℕ) (early : moment ≤ last) where
  record Keeps (state : RouterState) : Type 0 where
    lasts : Lasts last state
    hears : HearsWriter writing port timing state

  ticks : (state : RouterState) → nat_lt state.machines.moment moment ≡ true → Keeps state → Keeps (tick state)
  unfolding AllLast TablesLast
  ticks state before keeps =
      let less = ltb-true state.machines.moment moment before in
      let passed : ℕ = last - state.machines.moment in
      let some : 1 ≤ last - state.machines.moment = omega (arith, less, early) in
      let count : (last - state.machines.moment) - 1 ≡ last - (state.machines.moment + 1) = omega arith in
      let same = same_at state.machines.moment (last - state.machines.moment) port state.tables keeps.lasts.now some keeps.lasts.left in
      record {
        lasts = record {
          by_then = omega (arith, less, early);
          now = all_at_later state.machines.moment state.tables keeps.lasts.now;
          left = subst (λ (n : ℕ). TablesLast n (map (passed_to (state.machines.moment + 1)) state.tables)) count (tables_later state.machines.moment (last - state.machines.moment) state.tables keeps.lasts.now some keeps.lasts.left);
        };
        hears = record {
          own = keeps.hears.own;
          known = same.known writing.own ∙ keeps.hears.known;
          timing_is = keeps.hears.timing_is
              ∙ ap₂ (λ hellos n. record { override_ms = jp_override_interval (port_at port state).propagation (port_at port state).override_ms hellos; several = nat_lt 1 n }) (sym same.hellos) (sym same.count);
        };
      }

  EndKeeps : Option (Step (List ℕ) × RouterState) → Type 0
  EndKeeps None = Unit {0}
  EndKeeps (Some end) = Keeps end.1

  with_timers : (state : RouterState) (records : List (Record (List ℕ))) → Keeps state → Keeps (with_machines state (with_records state.machines records))
  with_timers state records keeps = record {
    lasts = record { by_then = keeps.lasts.by_then; now = keeps.lasts.now; left = keeps.lasts.left };
    hears = record { own = keeps.hears.own; known = keeps.hears.known; timing_is = keeps.hears.timing_is };
  }

  refreshed : (state : RouterState) → Keeps state → Keeps (with_refresh state refresh_period)
  refreshed state keeps = record {
    lasts = record { by_then = keeps.lasts.by_then; now = keeps.lasts.now; left = keeps.lasts.left };
    hears = record { own = keeps.hears.own; known = keeps.hears.known; timing_is = keeps.hears.timing_is };
  }

  nobody_ends : (state : RouterState) → Keeps state → list_any has_ended state.tables ≡ false
  unfolding AllLast TablesLast
  nobody_ends state keeps = none_has_ended (last - state.machines.moment) state.tables keeps.lasts.left

  timeless : (turns : ℕ) → ((state : RouterState) → Keeps state → EndKeeps (run_within turns moment state)) → (state : RouterState) → Keeps state
      → EndKeeps (run_on (turn_of_refresh moment state) state (run_within turns moment))
  unfolding EndKeeps
  timeless turns further state keeps =
      elim (state.refresh == 0) as (λ b. EndKeeps (run_on (if b then stops_with Refresh (with_refresh state refresh_period) else turn_of_time moment state) state (run_within turns moment))) [
        | true ↦ refreshed state keeps
        | false ↦
            elim (nat_lt state.machines.moment moment) as (λ b. nat_lt state.machines.moment moment ≡ b → EndKeeps (run_on (if b then moves (tick state) else rests) state (run_within turns moment))) [
              | true ↦ λ e. further (tick state) (ticks state e keeps)
              | false ↦ λ e. keeps
            ] refl
      ]

  timers : (turns : ℕ) → ((state : RouterState) → Keeps state → EndKeeps (run_within turns moment state)) → (state : RouterState) (fires : Option (Fires (List ℕ) × List (Record (List ℕ)))) → Keeps state
      → EndKeeps (run_on (turn_of_timers moment state fires) state (run_within turns moment))
  unfolding EndKeeps
  timers turns further state None keeps = timeless turns further state keeps
  timers turns further state (Some (fires.Reached, records)) keeps = further (with_machines state (with_records state.machines records)) (with_timers state records keeps)
  timers turns further state (Some (fires.Echo p group what, records)) keeps = with_timers state records keeps

  run_keeps : (turns : ℕ) (state : RouterState) → Keeps state → EndKeeps (run_within turns moment state)
  unfolding EndKeeps run_within turn
  run_keeps zero state keeps = tt
  run_keeps (suc turns) state keeps =
      rw (nobody_ends state keeps) (timers turns (run_keeps turns) state (fired state.machines.records) keeps)

  end_keeps : (state after : RouterState) (answer : Step (List ℕ)) → Keeps state → Runs moment state answer after → Keeps after
  unfolding EndKeeps
  end_keeps state after answer keeps runs = subst EndKeeps runs.within (run_keeps runs.turns state keeps)

  reaches_keeps : (actions : List RouterReport) (state after : RouterState) → Keeps state → Reaches moment actions state after → Keeps after
  unfolding Reaches
  reaches_keeps [] state after keeps reaches = end_keeps state after Reached keeps reaches
  reaches_keeps (echo p group what ∷ more) state after keeps reaches = reaches_keeps more reaches.0 after (end_keeps state reaches.0 (Echo p group what) keeps reaches.1) reaches.2
  reaches_keeps (refresh ∷ more) state after keeps reaches = reaches_keeps more reaches.0 after (end_keeps state reaches.0 Refresh keeps reaches.1) reaches.2
  reaches_keeps (verdict said ∷ more) state after keeps reaches = absurd reaches

pub stays_heard : WriterStaysHeard
stays_heard writing port timing moment last actions state after early lasts hears reaches =
    let kept = reaches_keeps writing port timing moment last early actions state after (record { lasts = lasts; hears = hears }) reaches in
    (kept.lasts, kept.hears)
