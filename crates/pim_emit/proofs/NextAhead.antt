-- What comes next on each port, where what comes next of all is passed.
use Rattle.pim_emit.proofs.Words.{◌≡◌, ◌∙◌, ℕ, ◌+◌, ◌<◌, ◌≤◌, true, false, ◌&&◌, List, Option, None, Some, length, get_or}
use Rattle.pim_emit.proofs.Words.{option_map, eqb, sym, subst, arith, ⊎_elim, false≢true, and_parts, and_from, cases_lt, eq-eqb}
use Rattle.pim_emit.proofs.Words.{eqb-true, get_or-set_at, get_or-set_same, get_or-set_other, is_le, AddressFamily, is_above}
use Rattle.pim_emit.proofs.Words.{MachinesLeft, address_cmp, IsSound, Downstream, some_below, is_this, IsNextOn, IsNextSource}
use Rattle.pim_emit.proofs.Words.{SourceAhead, its_source, IsAheadOn, AreNext, FindsNext, is_source_joined}
use Rattle.std.proofs.Math.ListN.{set}
use Rattle.pim_emit.proofs.Addresses.{lt_less, above_less, le_above}
use Rattle.pim_emit.proofs.Above.{by_test}
use Rattle.pim_emit.proofs.PortsBelow.{found_below, and_below}

-- ---- a list that is written place by place

-- two lists are the same from this place on
abbrev pub AreSameFrom : {A : Type 0} → ℕ → List A → List A → Type 0
AreSameFrom {A} from these those = (k : ℕ) (d : A) → from ≤ k → get_or these k d ≡ get_or those k d

module _ {A : Type 0} (xs : List A) (i : ℕ) (x : A) where
  -- what holds of each place before this one, and of what is written there, holds of each up to it
  pub each_set : (P : ℕ → A → Type 0) → i < length xs → ((k : ℕ) (d : A) → k < i → P k (get_or xs k d)) → P i x
      → (k : ℕ) (d : A) → k < i + 1 → P k (get_or (set xs i x) k d)
  each_set P within before here k d below =
      ⊎_elim
      (λ (early : k < i). subst (P k) (sym (get_or-set_other xs i k x d (omega (arith, early)))) (before k d early))
      (λ (late : i ≤ k).
      let same : i ≡ k = omega (arith, late, below) in
      subst (λ n. P n (get_or (set xs i x) n d)) same (subst (P i) (sym (get_or-set_same xs i x d within)) here))
      (cases_lt k i)

  -- those behind it stay
  pub left_set : (ys : List A) → AreSameFrom i xs ys → AreSameFrom (i + 1) (set xs i x) ys
  left_set ys left k d behind = get_or-set_other xs i k x d (omega (arith, behind)) ∙ left k d (omega (arith, behind))

-- ---- one is passed

module _ (state : Downstream) (group : List ℕ) (port : ℕ) (below : port < state.ports) (bound : Option (List ℕ)) (passed : List ℕ) (least : IsNextSource state group bound (Some passed)) where
  passed_above : is_above bound passed ≡ true
  passed_above =
      (and_parts (is_above bound passed) (some_below state.ports (is_source_joined state group passed))
      (sym (and_below (is_above bound passed) (is_source_joined state group passed) state.ports) ∙ least.0)).0

  -- what is behind it is above the bound
  raised : (source : List ℕ) → (is_above (Some passed) source && is_source_joined state group source port) ≡ true
      → (is_above bound source && is_source_joined state group source port) ≡ true
  raised source passes =
      let parts = and_parts (is_above (Some passed) source) (is_source_joined state group source port) passes in
      and_from (is_above bound source) (is_source_joined state group source port)
      (above_less bound passed source passed_above (lt_less (address_cmp passed source) parts.0)) parts.1

  -- what comes next on a port, if it is another one, comes next behind it
  pub stays_next : (next : Option (List ℕ)) → IsNextOn state group bound port next → is_this passed next ≡ false → IsNextOn state group (Some passed) port next
  stays_next None none apart = λ source.
      by_test (is_above (Some passed) source && is_source_joined state group source port)
      (λ e. absurd (false≢true (sym (none source) ∙ raised source e)))
      (λ e. e)
  stays_next (Some next) is apart =
      let parts = and_parts (is_above bound next) (is_source_joined state group next port) is.0 in
      let up_to : is_le (address_cmp passed next) ≡ true =
      least.1 next (found_below (λ n. is_above bound next && is_source_joined state group next n) state.ports port below is.0) in (
        and_from (is_above (Some passed) next) (is_source_joined state group next port) (le_above passed next up_to apart) parts.1,
        λ source passes. is.1 source (raised source passes),
      )

  pub stays_ahead : (next : Option SourceAhead) → IsAheadOn state group bound port next → is_this passed (its_source next) ≡ false → IsAheadOn state group (Some passed) port next
  stays_ahead next was apart = record { next = stays_next (its_source next) was.next apart; left = was.left }

abbrev pub with_left : MachinesLeft → List ℕ → SourceAhead
with_left new source = record { source = source; left = new }

-- behind what came next on the port comes next what its machines tell
pub goes_on : (state : Downstream) (group : List ℕ) (port : ℕ) (bound : Option (List ℕ)) (family : AddressFamily) → IsSound family state → (ahead : SourceAhead) (new : MachinesLeft) (next : Option (List ℕ)) → IsAheadOn state group bound port (Some ahead)
    → FindsNext family ahead.left new next → IsAheadOn state group (Some ahead.source) port (option_map (with_left new) next)
goes_on state group port bound family sound ahead new None was carries = record { next = (carries state port group (Some ahead.source) sound was.left).0; left = tt }
goes_on state group port bound family sound ahead new (Some source) was carries =
    let reported = carries state port group (Some ahead.source) sound was.left in
    record { next = reported.0; left = reported.1 }

-- where it comes next on one port alone, what comes next on the others comes next behind it
pub passes_alone : (state : Downstream) (group : List ℕ) (bound : Option (List ℕ)) (passed : List ℕ) → IsNextSource state group bound (Some passed) → (nexts : List (Option SourceAhead)) (port : ℕ) (new : Option SourceAhead) → port < length nexts → AreNext state group bound nexts
    → ((place : ℕ) (other : Option SourceAhead) → place < state.ports → is_this passed (its_source (get_or nexts place other)) ≡ true → place ≡ port)
    → IsAheadOn state group (Some passed) port new → AreNext state group (Some passed) (set nexts port new)
passes_alone state group bound passed least nexts port new within are alone here place other below =
    by_test (eqb place port)
    (λ e.
    let same : place ≡ port = eqb-true place port e in
    subst (IsAheadOn state group (Some passed) place) (sym (get_or-set_at nexts port place new other same within)) (subst (λ n. IsAheadOn state group (Some passed) n new) (sym same) here))
    (λ e.
    let apart : place ≡ port → ⊥ = λ same. false≢true (sym e ∙ eq-eqb place port same) in
    subst (IsAheadOn state group (Some passed) place) (sym (get_or-set_other nexts port place new other apart))
    (stays_ahead state group place below bound passed least (get_or nexts place other) (are place other below)
    (by_test (is_this passed (its_source (get_or nexts place other))) (λ this. absurd (apart (alone place other below this))) (λ f. f))))
