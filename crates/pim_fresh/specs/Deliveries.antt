-- Which message came at which moment, in milliseconds. A list of deliveries has the newest first.
use Rattle.std.specs.Prelude.{◌≡◌, ℕ, ◌+◌, ◌-◌, ◌≤◌, ◌<◌, max, Bool}
use Rattle.std.specs.Prelude.{◌==◌, if◌then◌else◌, List, [], ◌∷◌, Option, None, Some}
use Rattle.std.specs.List.{list_any}

-- A message, by its number, that came at a moment.
pub record Delivery : Type 0 where
  pub message : ℕ
  pub moment : ℕ

-- The moment at which this message came last.
unfoldable pub last_of : ℕ → List Delivery → Option ℕ
last_of message [] = None
last_of message (delivery ∷ earlier) =
    if delivery.message == message then Some delivery.moment else last_of message earlier

-- The earlier moment, if there is one, or else the later one.
abbrev pub earlier_or : Option ℕ → Option ℕ → Option ℕ
earlier_or None here = here
earlier_or (Some first) here = Some first

-- The moment at which this message came first.
unfoldable pub first_of : ℕ → List Delivery → Option ℕ
first_of message [] = None
first_of message (delivery ∷ earlier) =
    earlier_or (first_of message earlier) (if delivery.message == message then Some delivery.moment else None)

-- The passed time, in milliseconds, is less than the Expiry Timer runs; `None` is a timer that
-- never ends.
abbrev pub IsShorter : ℕ → Option ℕ → Type 0
IsShorter passed None = Unit {0}
IsShorter passed (Some expiry) = passed < expiry

-- At this moment each message that was delivered came last less than its expiry time ago.
abbrev pub AreAlive : Option ℕ → ℕ → List Delivery → Type 0
AreAlive expiry moment deliveries = (message last : ℕ) → last_of message deliveries ≡ Some last →
    IsShorter (moment - last) expiry

-- The moments of the deliveries don't fall, and aren't above `moment`. At each of them, and at
-- `moment`, each earlier message came last less than its expiry time ago.
unfoldable pub IsTimely : Option ℕ → ℕ → List Delivery → Type 0
IsTimely expiry moment [] = Unit {0}
IsTimely expiry moment (delivery ∷ earlier) =
    (delivery.moment ≤ moment)
    × AreAlive expiry moment (delivery ∷ earlier)
    × IsTimely expiry delivery.moment earlier

-- Whether this message came.
abbrev pub is_delivered : ℕ → List Delivery → Bool
is_delivered message deliveries = list_any (λ delivery. delivery.message == message) deliveries

-- The moment of the last delivery, or the end of the latest override interval that began with a
-- message's first delivery, whichever is later; 0 without deliveries.
unfoldable pub final_moment : ℕ → List Delivery → ℕ
final_moment override_ms [] = 0
final_moment override_ms (delivery ∷ earlier) =
    max
    (if is_delivered delivery.message earlier then delivery.moment else delivery.moment + override_ms)
    (final_moment override_ms earlier)
