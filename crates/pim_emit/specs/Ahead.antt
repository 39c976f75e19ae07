-- Which source comes next on each port, and which machines of the group follow it there.
use Rattle.std.specs.Prelude.{◌≡◌, ℕ, ◌<◌, Bool, true, false, ◌&&◌, List, Option, None, Some, IfSome, option_map, slice_index_or}
use Rattle.std.specs.Ordering.{is_le}
use Rattle.pim_addr.specs.declared.family.AddressFamily.{AddressFamily}
use Rattle.pim_down.specs.After.{is_above, MachinesLeft}
use Rattle.pim_down.specs.Key.{address_cmp}
use Rattle.pim_down.specs.declared.machines.key.What.{What}
use Rattle.pim_down.specs.declared.machines.key.What.TheVariants.{Star, Source}
use Rattle.pim_down.specs.Sound.{IsSound}
use Rattle.pim_down.specs.Time.{Downstream}
use Rattle.pim_form.specs.NormalForm.{same_address}
use Rattle.pim_form.specs.Wants.{some_below}
use Rattle.pim_emit.specs.declared.ahead.LeastAhead.{LeastAhead}
use Rattle.pim_emit.specs.Least.{IsLeast}
use Rattle.pim_emit.specs.Machines.{is_source_joined}

-- Whether there is an address and it is this one.
abbrev pub is_this : List ℕ → Option (List ℕ) → Bool
is_this address None = false
is_this address (Some next) = same_address next address

-- `next` is the least source above the bound that the port has in Join or Prune-Pending of (S,G),
-- if there is one.
abbrev pub IsNextOn : Downstream → List ℕ → Option (List ℕ) → ℕ → Option (List ℕ) → Type 0
IsNextOn state group bound port next =
    IsLeast (λ source. is_above bound source && is_source_joined state group source port) next

-- `next` is the least source above the bound that some port has in Join or Prune-Pending of (S,G),
-- if there is one.
abbrev pub IsNextSource : Downstream → List ℕ → Option (List ℕ) → Option (List ℕ) → Type 0
IsNextSource state group bound next =
    IsLeast (λ source.
    some_below state.ports (λ port. is_above bound source && is_source_joined state group source port)) next

-- ---- machines that are left in a walk

-- The machines of the group on the port that follow this machine in the order of the records.
abbrev pub machines_behind : Downstream → ℕ → List ℕ → What (List ℕ) → MachinesLeft
machines_behind state port group what =
    record { records = state.records; behind = record { port = port; group = group; what = what } }

-- The machine after which the sources above a bound follow: (*,G) without a bound, else (S,G) of
-- the bound.
abbrev pub passed : Option (List ℕ) → What (List ℕ)
passed None = Star
passed (Some source) = Source source

-- If the old machines are those after a bound, then `next` is the least joined source above it, and
-- the new machines are those after `next`.
abbrev pub FindsNext : AddressFamily → MachinesLeft → MachinesLeft → Option (List ℕ) → Type 0
FindsNext family old new next = (state : Downstream) (port : ℕ) (group : List ℕ) (bound : Option (List ℕ)) →
    IsSound family state → old ≡ machines_behind state port group (passed bound) →
    IsNextOn state group bound port next × IfSome next (λ source. new ≡ machines_behind state port group (Source source))

-- ---- what is kept of each port

-- What is kept of a port: the source that comes next there, and the machines after it.
pub record SourceAhead : Type 0 where
  pub source : List ℕ
  pub left : MachinesLeft

-- The source that comes next, if one does.
abbrev pub its_source : Option SourceAhead → Option (List ℕ)
its_source None = None
its_source (Some ahead) = Some ahead.source

-- What is kept of the port is the least joined source above the bound there, with the machines
-- after it.
pub record IsAheadOn (state : Downstream) (group : List ℕ) (bound : Option (List ℕ)) (port : ℕ)
    (ahead : Option SourceAhead) : Type 0 where
  pub next : IsNextOn state group bound port (its_source ahead)
  pub left : IfSome ahead (λ this. this.left ≡ machines_behind state port group (Source this.source))

-- What is kept of each of the first `count` ports is what comes next there above the bound.
abbrev pub AreNextBelow : Downstream → List ℕ → Option (List ℕ) → ℕ → List (Option SourceAhead) → Type 0
AreNextBelow state group bound count nexts = (port : ℕ) (other : Option SourceAhead) → port < count →
    IsAheadOn state group bound port (slice_index_or nexts port other)

-- What is kept of each port is what comes next there above the bound.
abbrev pub AreNext : Downstream → List ℕ → Option (List ℕ) → List (Option SourceAhead) → Type 0
AreNext state group bound nexts = AreNextBelow state group bound state.ports nexts

-- ---- the least of them

-- The least of the sources that come next on the ports, and a port on which it comes next. If
-- `is_alone` is set, it comes next on no other port.
pub record LeastSeen : Type 0 where
  pub source : List ℕ
  pub port : ℕ
  pub is_alone : Bool

-- What contracts see of it, the address as its bytes.
abbrev pub least_seen : {A : Type 0} → (A → List ℕ) → LeastAhead A → LeastSeen
least_seen bytes_of least = record { source = bytes_of least.source; port = least.port; is_alone = least.is_alone }

-- The least source, if one comes next.
abbrev pub source_of_least : Option LeastSeen → Option (List ℕ)
source_of_least least = option_map (λ (this : LeastSeen). this.source) least

-- Of the sources that come next on the first `count` ports this is the least, and it comes next on
-- its port. If it is alone, it comes next on no other of these ports.
pub record IsLeastBelow (count : ℕ) (nexts : List (Option SourceAhead)) (least : LeastSeen) : Type 0 where
  pub within : least.port < count
  pub is_there : (other : Option SourceAhead) → its_source (slice_index_or nexts least.port other) ≡ Some least.source
  pub up_to : (port : ℕ) (other : Option SourceAhead) → port < count →
      IfSome (its_source (slice_index_or nexts port other)) (λ source.
      is_le (address_cmp least.source source) ≡ true)
  pub alone : least.is_alone ≡ true → (port : ℕ) (other : Option SourceAhead) → port < count →
      is_this least.source (its_source (slice_index_or nexts port other)) ≡ true → port ≡ least.port

-- No source comes next on the first `count` ports, or this is the least.
abbrev pub AreLeastBelow : ℕ → List (Option SourceAhead) → Option LeastSeen → Type 0
AreLeastBelow count nexts None =
    (port : ℕ) (other : Option SourceAhead) → port < count → its_source (slice_index_or nexts port other) ≡ None
AreLeastBelow count nexts (Some least) = IsLeastBelow count nexts least
