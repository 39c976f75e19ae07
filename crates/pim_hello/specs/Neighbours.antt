-- The neighbours of one port (RFC 7761, 4.3.1, 4.3.2 and 4.9.2): a finite map from their addresses.
-- It has what the last accepted Hello of each said, and the time that is left.
use Rattle.std.specs.Prelude.{◌≡◌, ◌↔◌, ℕ, ◌+◌, ◌-◌, ◌*◌, ◌^◌, ◌≤◌, Bool, false, not, ◌&&◌, ◌||◌, ◌==◌, nat_le, nat_eq}
use Rattle.std.specs.Prelude.{List, [], length, map, filter, Option, Some, None, option_map, is_some, Result, Err, IfOk}
use Rattle.std.specs.Prelude.{◌∷◌, min, IsOk, OnOk, OnErr, IsTrue, if◌then◌else◌}
use Rattle.std.specs.Option.{option_eq}
use Rattle.std.specs.Ordering.{nat_cmp}
use Rattle.std.specs.Cmp.Lexicographic.{slice_cmp}
use Rattle.std.specs.BTreeMap.{is_at, insert_entry}
use Rattle.std.specs.Map.{lookup, remove_entry, keys_of}
use Rattle.std.specs.List.Sorted.{IsStrictlySortedBy}
use Rattle.pim_hello.specs.Hello.{Parameters}
use Rattle.pim_hello.specs.declared.heard.Heard.{Heard}
use Rattle.pim_hello.specs.declared.heard.Heard.TheVariants.{New, Same, Restarted, Gone}
use Rattle.pim_hello.specs.declared.heard.NeighbourFault.{NeighbourFault}
use Rattle.pim_hello.specs.declared.heard.NeighbourFault.TheVariants.{Full}

-- A neighbour. `left` is the time in milliseconds until it is removed, or None if it is kept
-- forever.
pub record Neighbour : Type 0 where
  pub parameters : Parameters
  pub left : Option ℕ

-- The neighbours of a port at a moment in milliseconds, in ascending order of their addresses.
pub record Table : Type 0 where
  pub moment : ℕ
  pub entries : List (List ℕ × Neighbour)

-- A port has at most this number of neighbours.
abbrev pub neighbour_limit : ℕ
neighbour_limit = 1024

-- The table of a new port.
abbrev pub no_neighbours : Table
no_neighbours = record { moment = 0; entries = [] }

-- Whether an address is this one.
abbrev pub is_address : List ℕ → List ℕ → Bool
is_address address = is_at (slice_cmp nat_cmp address)

-- What the table has at this address.
abbrev pub neighbour_at : List ℕ → Table → Option Neighbour
neighbour_at address table = lookup (is_address address) table.entries

-- What the table has at this address, with the address.
abbrev pub entry_at : List ℕ → Table → Option (List ℕ × Neighbour)
entry_at address table = option_map (λ neighbour. (address, neighbour)) (neighbour_at address table)

-- What the last Hello of each neighbour said.
abbrev pub hellos_of : Table → List Parameters
hellos_of table = map (λ entry. entry.1.parameters) table.entries

-- ---- time

-- The neighbour after some milliseconds: its time falls, down to 0.
abbrev pub waited : ℕ → Neighbour → Neighbour
waited passed neighbour =
    record { parameters = neighbour.parameters; left = option_map (λ left. left - passed) neighbour.left }

-- The table when time has passed up to the moment `now`. An earlier moment counts as the present
-- one.
abbrev pub passed_to : ℕ → Table → Table
passed_to now table = let passed : ℕ = now - table.moment in
    record { moment = table.moment + passed; entries = map (λ entry. (entry.0, waited passed entry.1)) table.entries }

-- No time is left.
abbrev pub is_over : Option ℕ → Bool
is_over None = false
is_over (Some left) = left == 0

-- The table without the neighbours whose time has ended.
abbrev pub without_ended : Table → Table
without_ended table =
    record { moment = table.moment; entries = filter (λ entry. not (is_over entry.1.left)) table.entries }

-- The lesser of two times, where `None` is never.
abbrev pub sooner : Option ℕ → Option ℕ → Option ℕ
sooner None b = b
sooner (Some a) None = Some a
sooner (Some a) (Some b) = Some (min a b)

-- The least time that is left to one of these neighbours; `None` if all are kept forever.
unfoldable pub least_left : List (List ℕ × Neighbour) → Option ℕ
least_left [] = None
least_left (entry ∷ entries) = sooner entry.1.left (least_left entries)

-- The first moment, from the present one on, at which a neighbour's time is over; `None` if none's
-- ever is.
abbrev pub next_end : Table → Option ℕ
next_end table = option_map (λ left. table.moment + left) (least_left table.entries)

-- ---- a Hello

-- How long a Hello keeps its sender, in milliseconds, by its Holdtime in seconds. Without Holdtime
-- it is 105 s, Default_Hello_Holdtime. Holdtime 0xffff means forever.
abbrev pub lifetime : Option ℕ → Option ℕ
lifetime None = Some 105000
lifetime (Some holdtime) = if holdtime == 65535 then None else Some (1000 * holdtime)

-- The Hello is a goodbye: its Holdtime is 0.
abbrev pub says_goodbye : Parameters → Bool
says_goodbye hello = option_eq nat_eq hello.holdtime (Some 0)

-- The table after a Hello: the sender has what the Hello says, or is removed by a goodbye.
abbrev pub heard_from : List ℕ → Parameters → Table → Table
heard_from sender hello table = record {
  moment = table.moment;
  entries = if says_goodbye hello
      then remove_entry (is_address sender) table.entries
      else insert_entry (slice_cmp nat_cmp) table.entries sender
      (record { parameters = hello; left = lifetime hello.holdtime });
}

-- What the Generation ID of a known sender means (RFC 7761, 4.3.1). The sender is `Same` if it is
-- equal or absent both times, else `Restarted`.
abbrev pub heard_of_known : Option ℕ → Option ℕ → Heard
heard_of_known kept generation = if option_eq nat_eq kept generation then Same else Restarted

-- What a Hello that is no goodbye means: its sender is new, the same, or has restarted.
abbrev pub heard_unless_goodbye : Option Neighbour → Parameters → Heard
heard_unless_goodbye None hello = New
heard_unless_goodbye (Some known) hello = heard_of_known known.parameters.generation hello.generation

-- What a Hello means for its sender, by what the table has of it.
abbrev pub heard_as : Option Neighbour → Parameters → Heard
heard_as known hello = if says_goodbye hello then Gone else heard_unless_goodbye known hello

-- There is no room: the sender is new, says no goodbye, and the port has `neighbour_limit`
-- neighbours.
abbrev pub is_full : List ℕ → Parameters → Table → Bool
is_full sender hello table = not (says_goodbye hello) && not (is_some (neighbour_at sender table)) &&
    nat_le neighbour_limit (length table.entries)

-- The Hello needs no memory: it is a goodbye, or a known sender is kept forever by it.
abbrev pub needs_no_memory : List ℕ → Parameters → Table → Bool
needs_no_memory sender hello table =
    says_goodbye hello || (is_some (neighbour_at sender table) && not (is_some (lifetime hello.holdtime)))

-- What a call that hears a Hello returns, and the table that it leaves. A refusal changes nothing.
-- `Full` comes exactly where there is no room, and a Hello that needs no memory is never refused.
pub record Hears (sender : List ℕ) (hello : Parameters) (now : ℕ) (old : Table)
    (result : Result Heard NeighbourFault) (new : Table) : Type 0 where
  pub answer : IfOk result (λ heard. heard ≡ heard_as (neighbour_at sender old) hello)
  pub table : OnOk result (new ≡ heard_from sender hello (passed_to now old))
  pub full : (result ≡ Err Full) ↔ IsTrue (is_full sender hello old)
  pub memory : IsTrue (needs_no_memory sender hello old) → IsOk result
  pub unchanged : OnErr result (new ≡ old)

-- ---- between calls

-- The addresses ascend, so that each occurs once.
abbrev pub IsAscending : Table → Type 0
IsAscending table = IsStrictlySortedBy (slice_cmp nat_cmp) (keys_of table.entries)

-- What holds of each table: its moment in milliseconds, its number of neighbours, and their order.
pub record IsSound (table : Table) : Type 0 where
  pub moment : table.moment ≤ 10 ^ 15
  pub limit : length table.entries ≤ neighbour_limit
  pub ascending : IsAscending table
