-- A call after a fault.
use Rattle.pim_merge.proofs.Words.{◌≡◌, ◌<◌, ◌≤◌, ◌∙◌, ◌∷◌, ◌++◌, [], ℕ, zero, suc, List, Option, None, Some, IsSome, Err, length}
use Rattle.pim_merge.proofs.Words.{get_or, take, drop, sym, ap, subst, arith, ⊎_elim, AllByRecursion, ⊤, cases_lt, false≢true}
use Rattle.pim_merge.proofs.Words.{get_or_past, length-drop, take_at, CaptureFault, EventSeen, RecordPlace, LaneState, IsLooked}
use Rattle.pim_merge.proofs.Words.{HasFailed, FailsAt, lane_at, no_lane, IsFailedHead, IsFailed}
use Rattle.pim_merge.proofs.Looking.{as_before, IsLookedUpTo}

looked_at : (lanes : List LaneState) (i n : ℕ) (d : LaneState) → AllByRecursion IsLooked (take n lanes) → i < n → i < length lanes → IsLooked (get_or lanes i d)
looked_at [] i n d all less below = absurd (omega (arith, below))
looked_at (lane ∷ lanes) i zero d all less below = absurd (omega (arith, less))
looked_at (lane ∷ lanes) zero (suc n) d all less below = all.0
looked_at (lane ∷ lanes) (suc i) (suc n) d all less below = looked_at lanes i n d all.1 (omega (arith, less)) (omega (arith, below))

no_lane_fails : HasFailed no_lane → ⊥
no_lane_fails failed = false≢true failed.1

-- a capture that failed is there
fails_within : (n : ℕ) (lanes : List LaneState) → HasFailed (lane_at n lanes) → length lanes ≤ n → ⊥
fails_within n lanes failed over = no_lane_fails (subst HasFailed (get_or_past lanes n no_lane over) failed)

same_end : (number : ℕ) (old now : List LaneState) → drop number now ≡ drop number old → length now ≤ number → length old ≤ number
same_end number old now rest over =
    let one : length (drop number now) ≡ length (drop number old) = ap length rest in
    omega (arith, one, length-drop number now, length-drop number old)

-- all heads were read, so no capture failed before
pub none_failed : (number n : ℕ) (old now : List LaneState) → length now ≤ number → IsLookedUpTo number old now → FailsAt n old → ⊥
none_failed number n old now over w fails = fails_within n old fails.1 (let end = same_end number old now w.rest over in let early = w.early n fails in omega (arith, end, early))

module _ (number : ℕ) (old now : List LaneState) (d : LaneState) (below : number < length now) (w : IsLookedUpTo number old now) where
  lane_before : get_or now number d ≡ lane_at number old
  lane_before = as_before number old now d below w.rest

  below_old : number < length old
  below_old =
      let one : length (drop number now) ≡ length (drop number old) = ap length w.rest in
      omega (arith, below, one, length-drop number now, length-drop number old)

  -- this head could not be read, so the capture that failed before is this one
  pub failed_again : (fault : CaptureFault) (at : RecordPlace) (n : ℕ) → (get_or now number d).head ≡ None → (HasFailed (get_or now number d) → IsFailedHead {A = ⊤} (Err fault)) → FailsAt n old
      → IsFailed {A = ⊤} n (Err (record { capture = number; file = at.file; «record» = at.«record»; fault = fault }))
  failed_again fault at n none repeated fails = (same, repeated (subst HasFailed (sym (lane_before ∙ ap (λ k. lane_at k old) same)) fails.1))
    where
      later : number < n → ⊥
      later less = headless (lane_at number old).head (ap (λ (l : LaneState). l.head) (sym lane_before) ∙ none) (looked_at old number n no_lane fails.0 less below_old)
        where
          headless : (head : Option EventSeen) → head ≡ None → IsSome head → ⊥
          headless None e some = false≢true some
          headless (Some reported) e some = absurd cc

      same : number ≡ n
      same = let early = w.early n fails in ⊎_elim (λ less. absurd (later less)) (λ e. omega (arith, e, early)) (cases_lt number n)

-- what holds of the captures when they are lent holds of them when they are given back
pub put_back : (P : List LaneState → List LaneState → Type 0) (lent old new items : List LaneState) (len : ℕ) → lent ≡ old → len ≡ length new → P lent new
    → P old (take len (new ++ drop (length new) items))
put_back P lent old new items len same size holds =
    subst (λ l. P l (take len (new ++ drop (length new) items))) same (subst (P lent) (sym (take_at new (drop (length new) items) len (sym size))) holds)
