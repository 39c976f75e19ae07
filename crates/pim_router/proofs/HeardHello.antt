-- A Hello that a port hears.
use Rattle.pim_router.proofs.Words.{◌≡◌, ◌∙◌, ◌<◌, ◌≤◌, ◌↔◌, ℕ, Bool, true, false, not, List, length, get_or, set}
use Rattle.pim_router.proofs.Words.{Result, Ok, Err, refl, sym, ap, subst, IsTrue, IsOk, OnErr, false≢true, set-get_or}
use Rattle.pim_router.proofs.Words.{get_or_read, length-set, AllocError, fault_if, Parameters, Table, Hears}
use Rattle.pim_router.proofs.Words.{no_neighbours, without_ended, is_full, heard_from, passed_to, neighbour_at}
use Rattle.pim_router.proofs.Words.{needs_no_memory, heard_as, Verdict, Receives, unless, hello_causes, hello_heard}
use Rattle.pim_router.proofs.Words.{neighbours_on, hello_verdict, IsCurrent, IsRouter, RouterState, with_tables}
use Rattle.pim_hello.specs.declared.heard.Heard.{Heard}
use Rattle.pim_hello.specs.declared.heard.NeighbourFault.{NeighbourFault}
use Rattle.pim_hello.specs.declared.heard.NeighbourFault.TheVariants.{Full, Memory}
use Rattle.pim_router.specs.declared.verdict.Verdict.TheVariants as verdict
use Rattle.pim_router.specs.declared.verdict.Store.TheVariants as store
use Rattle.pim_router.proofs.Current.{all_at, all_set, all_there, no_time_passes, hello_keeps}

module _ (state : RouterState) (port : ℕ) (sender : List ℕ) (said : Parameters) where
  abbrev causes_of : Table → List Verdict
  causes_of table = fault_if (is_full sender said table) (verdict.Full store.Neighbours)

  abbrev taken_of : Table → Verdict × RouterState
  taken_of table = (
    verdict.HelloTaken (heard_as (neighbour_at sender table) said),
    with_tables state (set state.tables port (heard_from sender said table)),
  )

  abbrev Ends : Table → Result Heard NeighbourFault → Table → Type 0
  Ends table result after = Receives (causes_of table) (unless (causes_of table) state (taken_of table)) state
      (hello_verdict result) (with_tables state (set state.tables port after))

  ok_full : (heard : Heard) → ◌≡◌ {A = Result Heard NeighbourFault} (Ok heard) (Err Full) → ⊥
  ok_full heard e = cc

  memory_full : ◌≡◌ {A = Result Heard NeighbourFault} (Err Memory) (Err Full) → ⊥
  memory_full e = cc

  not_full : (b : Bool) (P : Type 0) → (P → ⊥) → P ↔ IsTrue b → b ≡ false
  not_full true P never both = absurd (never (both.1 refl))
  not_full false P never both = refl

  on_row : (now : ℕ) (row : Table) → passed_to now row ≡ row → set state.tables port row ≡ state.tables →
      (result : Result Heard NeighbourFault) (after : Table) → Hears sender said now row result after → Ends row result after
  on_row now row passed same (Ok heard) after hears =
      rw (not_full (is_full sender said row) (Ok heard ≡ Err Full) (ok_full heard) hears.full)
      (ap (λ h. (verdict.HelloTaken h, with_tables state (set state.tables port after))) hears.answer
      ∙ ap (λ t. (verdict.HelloTaken (heard_as (neighbour_at sender row) said), with_tables state (set state.tables port t)))
      (hears.table ∙ ap (heard_from sender said) passed))
  on_row now row passed same (Err Full) after hears =
      let full : is_full sender said row ≡ true = hears.full.0 refl in
      rw full (ap (λ ts. (verdict.Full store.Neighbours, with_tables state ts)) (ap (set state.tables port) hears.unchanged ∙ same))
  on_row now row passed same (Err Memory) after hears =
      let less : is_full sender said row ≡ false = not_full (is_full sender said row) (Err Memory ≡ Err Full) memory_full hears.full in
      (rw less refl, ap (with_tables state) (ap (set state.tables port) hears.unchanged ∙ same))

  still_current : (now moment : ℕ) (row : Table) → passed_to now row ≡ row → IsCurrent moment row →
      (result : Result Heard NeighbourFault) (after : Table) → Hears sender said now row result after → IsCurrent moment after
  still_current now moment row passed current (Ok heard) after hears =
      subst (IsCurrent moment) (sym (hears.table ∙ ap (heard_from sender said) passed)) (hello_keeps said sender row moment current)
  still_current now moment row passed current (Err fault) after hears = subst (IsCurrent moment) (sym hears.unchanged) current

  -- memory is wanting only where the Hello may take some
  abbrev Wants : Table → Result Verdict AllocError → Type 0
  Wants table result = OnErr result (IsTrue (not (needs_no_memory sender said table)))

  may_be_refused : (b : Bool) → (IsTrue b → IsOk {T = Heard} {E = NeighbourFault} (Err Memory)) → IsTrue (not b)
  may_be_refused true never = absurd (false≢true (never refl))
  may_be_refused false never = refl

  wants_on_row : (now : ℕ) (row : Table) (result : Result Heard NeighbourFault) (after : Table) → Hears sender said now row result after →
      Wants row (hello_verdict result)
  wants_on_row now row (Ok heard) after hears = tt
  wants_on_row now row (Err Full) after hears = tt
  wants_on_row now row (Err Memory) after hears = may_be_refused (needs_no_memory sender said row) hears.memory

  module _ (sound : IsRouter state) (row : Table) (within : port < length state.tables) (is : row ≡ get_or state.tables port row)
      (now : ℕ) (present : now ≡ state.machines.moment) (result : Result Heard NeighbourFault) (after : Table) (hears : Hears sender said now row result after) where
    is_row : row ≡ get_or state.tables port no_neighbours
    is_row = get_or_read state.tables port row within is no_neighbours

    row_current : IsCurrent state.machines.moment row
    row_current = subst (IsCurrent state.machines.moment) (sym is_row)
        (all_at (IsCurrent state.machines.moment) state.tables port no_neighbours sound.current within)

    passed : passed_to now row ≡ row
    passed = no_time_passes row now (row_current.moment_now ∙ sym present)

    put_back : set state.tables port row ≡ state.tables
    put_back = ap (set state.tables port) is ∙ set-get_or state.tables port row

    there : row ≡ neighbours_on port state
    there = sym (all_there row row_current.none_ended) ∙ ap without_ended is_row

    pub hello_ends : Receives (hello_causes port sender state said)
        (unless (hello_causes port sender state said) state (hello_heard port sender state said)) state
        (hello_verdict result) (with_tables state (set state.tables port after))
    hello_ends = subst (λ t. Ends t result after) there (on_row now row passed put_back result after hears)

    pub hello_wants : Wants (neighbours_on port state) (hello_verdict result)
    hello_wants = subst (λ t. Wants t (hello_verdict result)) there (wants_on_row now row result after hears)

    pub stays_router : length after.entries ≤ 1024 → IsRouter (with_tables state (set state.tables port after))
    stays_router few = record {
      ports = sound.ports;
      tables = length-set state.tables port after ∙ sound.tables;
      delays = sound.delays;
      current = all_set (IsCurrent state.machines.moment) state.tables port after sound.current
          (still_current now state.machines.moment row passed row_current result after hears);
      few = all_set (λ (table : Table). length table.entries ≤ 1024) state.tables port after sound.few few;
      refresh = sound.refresh;
    }

  pub hello_told : (now : RouterState) → state ≡ now → (result : Result Verdict AllocError) (heard : Result Heard NeighbourFault) →
      result ≡ hello_verdict heard → (after : RouterState) →
      Receives (hello_causes port sender state said)
      (unless (hello_causes port sender state said) state (hello_heard port sender state said)) state (hello_verdict heard) after →
      Receives (hello_causes port sender now said)
      (unless (hello_causes port sender now said) now (hello_heard port sender now said)) now result after
  hello_told now same result heard says after ends =
      subst (λ r. Receives (hello_causes port sender now said)
      (unless (hello_causes port sender now said) now (hello_heard port sender now said)) now r after) (sym says)
      (subst (λ n. Receives (hello_causes port sender n said)
      (unless (hello_causes port sender n said) n (hello_heard port sender n said)) n (hello_verdict heard) after) same ends)

  pub hello_wants_told : (now : RouterState) → state ≡ now → (result : Result Verdict AllocError) (heard : Result Heard NeighbourFault) →
      result ≡ hello_verdict heard → Wants (neighbours_on port state) (hello_verdict heard) → Wants (neighbours_on port now) result
  hello_wants_told now same result heard says wants =
      subst (λ r. Wants (neighbours_on port now) r) (sym says)
      (subst (λ (n : RouterState). Wants (neighbours_on port n) (hello_verdict heard)) same wants)
