-- The laws of `src/laws.rt`, and their words.
use Rattle.std.specs.Prelude.{◌≡◌, ◌≤◌, ℕ, ◌-◌, max, Bool, false, nat_le, if◌then◌else◌}
use Rattle.std.specs.Prelude.{List, ◌∷◌, Option, Some, None, option_map}
use Rattle.std.specs.List.{AllByRecursion, list_any}
use Rattle.pim_addr.specs.Order.{Place, IsReportedBefore}
use Rattle.pim_hello.specs.declared.fault.HelloFault.{HelloFault}
use Rattle.pim_hello.specs.Faults.{number_of, faults}
use Rattle.pim_hello.specs.Hello.{Parameters}
use Rattle.pim_hello.specs.Neighbours.{Neighbour, Table, neighbour_at, waited, passed_to, is_over, without_ended}
use Rattle.pim_hello.specs.Neighbours.{says_goodbye, lifetime, heard_from, next_end, IsAscending}

-- What orders faults: the offset of a fault, and the number of its kind.
abbrev pub place : HelloFault → Place
place fault = (fault.at, number_of fault.kind)

-- The first fault precedes the other: it has the lesser offset, or the same offset and the lesser
-- number of its kind.
abbrev pub ReportedBefore : HelloFault → HelloFault → Type 0
ReportedBefore first other = IsReportedBefore (place first) (place other)

-- The first of all faults of a body precedes the others.
abbrev pub FirstFaultIsLeast : Type 0
FirstFaultIsLeast = (body : List ℕ) (first : HelloFault) (others : List HelloFault) →
    faults body ≡ first ∷ others → AllByRecursion (ReportedBefore first) others

-- What the table has of the sender after this Hello.
abbrev pub kept_of_sender : Parameters → Option Neighbour
kept_of_sender hello =
    if says_goodbye hello then None else Some (record { parameters = hello; left = lifetime hello.holdtime })

-- What the table has of a neighbour after those whose time has ended are removed.
abbrev pub unless_ended : Option Neighbour → Option Neighbour
unless_ended None = None
unless_ended (Some neighbour) = if is_over neighbour.left then None else Some neighbour

-- After a Hello, the sender has what it said, or nothing after a goodbye. Each other address has
-- what it had, and the addresses ascend.
abbrev pub HearingChangesItsSenderAlone : Type 0
HearingChangesItsSenderAlone = (table : Table) (sender : List ℕ) (hello : Parameters) → IsAscending table →
    (neighbour_at sender (heard_from sender hello table) ≡ kept_of_sender hello)
    × ((other : List ℕ) → (sender ≡ other → ⊥) → neighbour_at other (heard_from sender hello table) ≡
    neighbour_at other table)
    × IsAscending (heard_from sender hello table)

-- The time of each neighbour falls by the milliseconds that pass.
abbrev pub TimePassesForAll : Type 0
TimePassesForAll = (table : Table) (now : ℕ) (address : List ℕ) →
    neighbour_at address (passed_to now table) ≡ option_map (waited (now - table.moment)) (neighbour_at address table)

-- Exactly the neighbours whose time has ended are removed.
abbrev pub ExactlyTheEndedGo : Type 0
ExactlyTheEndedGo = (table : Table) (address : List ℕ) → IsAscending table →
    neighbour_at address (without_ended table) ≡ unless_ended (neighbour_at address table)

-- The table after expiry at the moment `now` (RFC 7761, 4.3.2).
abbrev pub expired_at : ℕ → Table → Table
expired_at now table = without_ended (passed_to now table)

-- Expiry at one moment and then at another is expiry at the later one.
abbrev pub ExpiringTwiceIsExpiringOnce : Type 0
ExpiringTwiceIsExpiringOnce = (table : Table) (first second : ℕ) → expired_at second (expired_at first table) ≡
    expired_at (max first second) table

-- Two tables of one moment, with ascending addresses, are equal if they agree at every address.
abbrev pub TablesThatAgreeAreOne : Type 0
TablesThatAgreeAreOne = (one other : Table) → IsAscending one → IsAscending other → one.moment ≡ other.moment →
    ((address : List ℕ) → neighbour_at address one ≡ neighbour_at address other) → one ≡ other

-- The moment comes no later than this one. `None` is never.
abbrev pub comes_by : ℕ → Option ℕ → Bool
comes_by moment None = false
comes_by moment (Some end) = nat_le end moment

-- By a moment, some neighbour's time is over exactly if `next_end` comes no later.
abbrev pub TimeIsOverFromNextEnd : Type 0
TimeIsOverFromNextEnd = (table : Table) (moment : ℕ) → table.moment ≤ moment →
    list_any (λ (entry : List ℕ × Neighbour). is_over entry.1.left) (passed_to moment table).entries ≡
    comes_by moment (next_end table)
