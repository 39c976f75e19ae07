-- The due entries that aren't reported yet: pairs of the moment since which an entry is due and its
-- key, in ascending order.
use Rattle.std.specs.Prelude.{◌≡◌, ℕ, ◌+◌, nat_lt, Bool, true, false, not, ◌&&◌, ◌==◌, List, Option, None, Some}
use Rattle.std.specs.List.{list_any, AllByRecursion}
use Rattle.std.specs.Ordering.{nat_cmp, ordering_then}
use Rattle.std.specs.declared.cmp.Ordering.{Ordering}
use Rattle.std.specs.BTreeMap.{is_at}
use Rattle.std.specs.Map.{lookup}
use Rattle.pim_audit.specs.declared.due.Due.{Due}

-- An entry that isn't reported is due since this moment.
abbrev pub waits_since : {A : Type 0} → ℕ → Option (Due A) → Bool
waits_since since None = false
waits_since since (Some held) = not held.is_reported && held.since == since

-- The entry becomes late: it has been due for more than the grace and wasn't reported before.
abbrev pub is_late : {A : Type 0} → ℕ → ℕ → Due A → Bool
is_late moment grace held = not held.is_reported && nat_lt (held.since + grace) moment

-- The same of an entry that may be due.
abbrev pub late_if_due : {A : Type 0} → ℕ → ℕ → Option (Due A) → Bool
late_if_due moment grace None = false
late_if_due moment grace (Some held) = is_late moment grace held

-- The entry, reported.
abbrev pub reported : {A : Type 0} → Due A → Due A
reported held = record { entry = held.entry; since = held.since; is_reported = true }

module _ {K : Type 0} (cmp : K → K → Ordering) where
  -- The order of the pairs: by the moment, then by the key.
  abbrev pub by_since : ℕ × K → ℕ × K → Ordering
  by_since x y = ordering_then (nat_cmp x.0 y.0) (cmp x.1 y.1)

  -- The pairs have this one.
  abbrev pub has_pair : List (ℕ × K) → ℕ → K → Bool
  has_pair waiting since key = list_any (is_at (by_since (since, key))) waiting

  -- The pairs are exactly those of the entries that aren't reported.
  abbrev pub AreWaiting : {A : Type 0} → List (ℕ × K) → List (K × Due A) → Type 0
  AreWaiting waiting entries =
      (since : ℕ) (key : K) → has_pair waiting since key ≡ waits_since since (lookup (is_at (cmp key)) entries)

-- No entry becomes late.
abbrev pub NoneIsLate : {K A : Type 0} → ℕ → ℕ → List (K × Due A) → Type 0
NoneIsLate {K} {A} moment grace entries = AllByRecursion (λ (e : K × Due A). is_late moment grace e.1 ≡ false) entries
