-- What devices have done: how often they have failed, and which bytes were moved.
use Rattle.std.specs.Prelude.{◌≡◌, ℕ, ◌+◌, ◌-◌, ◌^◌, ◌≤◌, min, List, ◌++◌, length, take, drop, Option, None, Some}
use Rattle.std.specs.Prelude.{Result, Ok, Err, ⊤, MatchResult}
use Rattle.std.specs.Io.KnownBytes.{Appends}
use Rattle.pim_device.specs.declared.counted.Counted.{Counted}

-- ---- the count of failures

-- The greatest count of failures, at which the count stops.
abbrev pub top_count : ℕ
top_count = 2 ^ 64 - 1

-- The count after a call with this result: one more after a failed call, up to `top_count`.
abbrev pub failures_after : {A E : Type 0} → ℕ → Result A E → ℕ
failures_after before (Ok x) = before
failures_after before (Err e) = min (before + 1) top_count

-- The count rose, or it is `top_count`: what a failure in between leaves.
abbrev pub FailedIn : ℕ → ℕ → Type 0
FailedIn before after = min (before + 1) top_count ≤ after

-- ---- the bytes that were moved where a device may have failed part of the way

-- Known contents grew by some front of `bs`.
abbrev pub AppendsFront : Option (List ℕ) → Option (List ℕ) → List ℕ → Type 0
AppendsFront None new bs = ⊤
AppendsFront (Some xs) None bs = ⊥
AppendsFront (Some xs) (Some ys) bs = (length xs ≤ length ys) × (ys ≡ take (length ys) (xs ++ bs))

-- Known contents grew by all of `bs` at Ok, by some front of it at Err.
abbrev pub AppendsAll : {A E : Type 0} → Option (List ℕ) → Option (List ℕ) → Result A E → List ℕ → Type 0
AppendsAll old new r bs = MatchResult r (λ _. Appends old new bs) (λ _. AppendsFront old new bs)

-- Known remaining bytes lost at most `most` bytes from their front.
abbrev pub ConsumesAtMost : ℕ → Option (List ℕ) → Option (List ℕ) → Type 0
ConsumesAtMost most None new = ⊤
ConsumesAtMost most (Some xs) None = ⊥
ConsumesAtMost most (Some xs) (Some ys) = (length xs ≤ length ys + most) × (ys ≡ drop (length xs - length ys) xs)

-- ---- the values of a `Counted`

-- The reader or writer inside.
abbrev pub counted_inner : {T : Type 0} → Counted T → T
counted_inner device = device.inner

-- The count of its failures.
abbrev pub counted_failures : {T : Type 0} → Counted T → ℕ
counted_failures device = device.failures
