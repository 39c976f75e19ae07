-- Units have a packing exactly if each of them fits a message alone.
use Rattle.pim_form.proofs.Words.{◌≡◌, ◌↔◌, ℕ, ◌+◌, ◌*◌, ◌≤◌, true, false, List, [], ◌∷◌, ◌++◌, nat_le, refl, sym, ap}
use Rattle.pim_form.proofs.Words.{subst, arith, append_assoc, le-leb, and_from, AllByRecursion, AddressFamily, Ipv4}
use Rattle.pim_form.proofs.Words.{Ipv6, WantUnit, unit_entries, run_entries, groups_behind, run_groups, run_size}
use Rattle.pim_form.proofs.Words.{empty_message_size, empty_set_size, entry_size, fits, most_groups, StopsBefore}
use Rattle.pim_form.proofs.Words.{IsNonempty, joined, AreRuns, IsPacking}
use Rattle.pim_form.proofs.Lists.{all_append}
use Rattle.pim_form.proofs.OnePacking.{fits_parts}

module _ (family : AddressFamily) (budget : ℕ) where
  -- the unit fits a message alone
  abbrev pub Alone : WantUnit → Type 0
  Alone this = fits family budget (this ∷ []) ≡ true

  -- ---- the units of a run that fits

  -- a message of one group with this many entries is within the budget
  abbrev HasRoomFor : ℕ → Type 0
  HasRoomFor count = empty_message_size family + empty_set_size family + count * entry_size family ≤ budget

  one_alone : (this : WantUnit) (count : ℕ) → HasRoomFor count → unit_entries this ≤ count → Alone this
  unfolding run_entries groups_behind
  one_alone this count room few =
      and_from (nat_le (run_size family (this ∷ [])) budget) (nat_le (run_groups (this ∷ [])) most_groups)
      (le-leb (run_size family (this ∷ [])) budget (within family room))
      (le-leb (run_groups (this ∷ [])) most_groups (omega arith))
    where
      within : (of : AddressFamily) → empty_message_size of + empty_set_size of + count * entry_size of ≤ budget → run_size of (this ∷ []) ≤ budget
      within Ipv4 room = omega (arith, room, few)
      within Ipv6 room = omega (arith, room, few)

  each_alone : (run : List WantUnit) (count : ℕ) → HasRoomFor count → run_entries run ≤ count → AllByRecursion Alone run
  unfolding run_entries
  each_alone [] count room few = tt
  each_alone (this ∷ run) count room few =
      (one_alone this count room (omega (arith, few)), each_alone run count room (omega (arith, few)))

  run_room : (run : List WantUnit) → IsNonempty run → run_size family run ≤ budget → HasRoomFor (run_entries run)
  unfolding groups_behind
  run_room [] some short = absurd some
  run_room (this ∷ run) some short = within family short
    where
      within : (of : AddressFamily) → run_size of (this ∷ run) ≤ budget → empty_message_size of + empty_set_size of + run_entries (this ∷ run) * entry_size of ≤ budget
      within Ipv4 short = omega (arith, short)
      within Ipv6 short = omega (arith, short)

  runs_alone : (runs : List (List WantUnit)) → AreRuns family budget runs → AllByRecursion Alone (joined runs)
  unfolding AreRuns
  runs_alone [] are = tt
  runs_alone (run ∷ runs) are =
      all_append Alone run (joined runs)
      (each_alone run (run_entries run) (run_room run are.0 (fits_parts family budget run are.1).0) (omega arith))
      (runs_alone runs are.3)

  -- ---- a packing of units that fit

  abbrev pub Packs : List WantUnit → Type 0
  Packs units = (runs : List (List WantUnit)) × IsPacking family budget units runs

  longer : (run : List WantUnit) (this : WantUnit) → IsNonempty (run ++ this ∷ [])
  longer [] this = tt
  longer (first ∷ run) this = tt

  one_more : (run : List WantUnit) (this : WantUnit) (units : List WantUnit) → (run ++ this ∷ []) ++ units ≡ run ++ this ∷ units
  one_more run this units = simp append_assoc

  -- the run ends before this unit, which begins the next one
  ends_here : (run : List WantUnit) (this : WantUnit) (units : List WantUnit) → IsNonempty run → fits family budget run ≡ true
      → fits family budget (run ++ this ∷ []) ≡ false → Packs (this ∷ units) → Packs (run ++ this ∷ units)
  unfolding AreRuns
  ends_here run this units some fit full (runs, packing) = (
    run ∷ runs,
    record {
      whole = ap (λ (these : List WantUnit). run ++ these) packing.whole;
      cut = (some, fit, subst (StopsBefore family budget run) (sym packing.whole) full, packing.cut);
    },
  )

  -- the longest run at the front, which begins with these units
  packed : (units run : List WantUnit) → IsNonempty run → fits family budget run ≡ true → AllByRecursion Alone units → Packs (run ++ units)
  unfolding AreRuns
  packed [] run some fit all = (run ∷ [], record { whole = refl; cut = (some, fit, tt, tt) })
  packed (this ∷ units) run some fit all =
      elim (fits family budget (run ++ this ∷ [])) as (λ b. fits family budget (run ++ this ∷ []) ≡ b → Packs (run ++ this ∷ units)) [
        | true ↦ λ room. subst Packs (one_more run this units) (packed units (run ++ this ∷ []) (longer run this) room all.1)
        | false ↦ λ full. ends_here run this units some fit full (packed units (this ∷ []) tt all.0 all.1)
      ] refl

  pub some_packing : (units : List WantUnit) → AllByRecursion Alone units → Packs units
  unfolding AreRuns
  some_packing [] all = ([], record { whole = refl; cut = tt })
  some_packing (this ∷ units) all = packed units (this ∷ []) tt all.0 all.1

  pub packing_alone : (units : List WantUnit) → Packs units → AllByRecursion Alone units
  packing_alone units (runs, packing) = subst (AllByRecursion Alone) packing.whole (runs_alone runs packing.cut)

  pub packs_if_each_fits : (units : List WantUnit) → Packs units ↔ AllByRecursion Alone units
  packs_if_each_fits units = (packing_alone units, some_packing units)
