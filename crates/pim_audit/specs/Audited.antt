-- An audit of a router: what its upstream neighbour was asked for, what is due, and the looks at it.
use Rattle.std.specs.Prelude.{◌≡◌, ◌≤◌, ℕ, nat_eq, Bool, true, false, ◌&&◌, ◌||◌, not, List, [], length}
use Rattle.std.specs.Cmp.Lexicographic.{pointwise}
use Rattle.std.specs.Option.{is_some}
use Rattle.pim_addr.specs.declared.family.AddressFamily.{AddressFamily}
use Rattle.pim_hello.specs.Neighbours.{neighbour_at}
use Rattle.pim_jp.specs.Message.{Message}
use Rattle.pim_down.specs.Hearing.{Event}
use Rattle.pim_down.specs.Time.{Downstream}
use Rattle.pim_form.specs.Wants.{some_below}
use Rattle.pim_router.specs.Packets.{own_address}
use Rattle.pim_router.specs.State.{RouterState, table_at}
use Rattle.pim_local.specs.Joins.{Join}
use Rattle.pim_audit.specs.Between.{AreDue}
use Rattle.pim_audit.specs.Look.{DueEntry, Found, LookFinds, held_entries}
use Rattle.pim_audit.specs.Order.{EntriesAscend}
use Rattle.pim_audit.specs.Sides.{SidesState}

-- What an audit keeps: the machines that heard what the upstream neighbour heard, and what was due
-- at the last look. Lateness is more than `grace` milliseconds.
pub record AuditState : Type 0 where
  pub upstream : List ℕ
  pub grace : ℕ
  -- what the router's local receivers have joined
  pub local : List Join
  pub asked : Downstream
  pub due : List DueEntry

-- What holds of an audit between calls.
pub record IsAudit (audit : AuditState) : Type 0 where
  pub order : EntriesAscend (held_entries audit.due)
  pub port : audit.asked.ports ≡ 1
  pub room : 1 ≤ audit.asked.limit
  pub limit : audit.asked.limit ≤ 100000

-- The audit with other machines, and all else equal.
abbrev pub with_asked : AuditState → Downstream → AuditState
with_asked audit asked = record {
  upstream = audit.upstream;
  grace = audit.grace;
  local = audit.local;
  asked = asked;
  due = audit.due;
}

-- The same port at the same moment, without a record.
abbrev pub without_records : Downstream → Downstream
without_records asked = record { ports = asked.ports; limit = asked.limit; moment = asked.moment; records = [] }

-- The upstream neighbour hears this message of this source on the port: the message names it and is
-- not its own, and the source is the router itself or a neighbour of it.
abbrev pub is_heard : ℕ → List ℕ → Message → AuditState → RouterState → Bool
is_heard port source message audit router =
    pointwise nat_eq message.upstream audit.upstream && not (pointwise nat_eq source audit.upstream)
    && (pointwise nat_eq source (own_address port router) || is_some (neighbour_at source (table_at port router)))

-- The router has a neighbour with this address on some port.
abbrev pub has_neighbour : List ℕ → RouterState → Bool
has_neighbour address state =
    some_below (length state.ports) (λ port. is_some (neighbour_at address (table_at port state)))

-- What was asked of the upstream neighbour, and what the router wants of it now.
abbrev pub sides_of : AuditState → RouterState → SidesState
sides_of audit router = record {
  asked = audit.asked;
  wanted = router.machines;
  local = audit.local;
  routes = router.routes;
  upstream = audit.upstream;
}

-- These entries are due now, if the upstream neighbour is one of the router on some port. Otherwise
-- none is due.
abbrev pub AreDueIf : Bool → AddressFamily → SidesState → List Event → Type 0
AreDueIf true family sides entries = AreDue family sides entries
AreDueIf false family sides entries = entries ≡ []

-- What is due after a look, and all else equal.
abbrev pub with_due : AuditState → List DueEntry → AuditState
with_due audit due = record {
  upstream = audit.upstream;
  grace = audit.grace;
  local = audit.local;
  asked = audit.asked;
  due = due;
}

-- A look at the router, at its present moment, finds this.
pub record LooksAt (family : AddressFamily) (audit : AuditState) (router : RouterState) (found : Found) : Type 0 where
  pub entries : List Event
  pub are : AreDueIf (has_neighbour audit.upstream router) family (sides_of audit router) entries
  pub finds : LookFinds audit.due entries router.machines.moment audit.grace found
