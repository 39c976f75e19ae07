-- What contracts of private functions see of what is gathered.
use Rattle.std.specs.Prelude.{◌≡◌, ℕ, List, [], map, Option, None, Some, unwrap_or, Result, Ok, Err}
use Rattle.pim_addr.specs.declared.family.AddressFamily.{AddressFamily}
use Rattle.pim_addr.specs.declared.family.AddressFamily.TheVariants as family
use Rattle.pim_addr.specs.Routes.{no_routes}
use Rattle.pim_addr.specs.declared.route_fault.RouteFault.{RouteFault}
use Rattle.pim_lines.specs.declared.either.AnyAddress.{AnyAddress}
use Rattle.pim_request.specs.declared.command.Command.{Command}
use Rattle.pim_request.specs.declared.command.Command.TheVariants as of_line
use Rattle.pim_router.specs.Seen.{port_seen}
use Rattle.pim_answers.specs.declared.fault.AnswerFault.{AnswerFault}
use Rattle.pim_session.specs.declared.setup.Rows.{Rows}
use Rattle.pim_session.specs.declared.setup.AnyRow.{AnyRow}
use Rattle.pim_session.specs.declared.setup.AnyRow.TheVariants as row
use Rattle.pim_session.specs.declared.setup.AnyRows.{AnyRows}
use Rattle.pim_session.specs.declared.setup.AnyRows.TheVariants.{Free, Ipv4, Ipv6}
use Rattle.pim_session.specs.declared.setup.Setup.{Setup}
use Rattle.pim_answers.specs.Fault.{fault_words, done_text}
use Rattle.pim_session.specs.Gathering.{AddsPort, AddsRp, AddsVia, StartsIn, family_of, route_words}
use Rattle.pim_session.specs.State.{Gathered, gathering, serving}
use Rattle.pim_answers.specs.Lines.{ok_line, fault_line}
use Rattle.pim_router.specs.State.{RouterState}

-- The rows of a family, where this one is fixed.
abbrev pub rows_seen : {F A N : Type 0} → (A → List ℕ) → Option AddressFamily → ℕ → Rows F A N →
    Gathered
rows_seen bytes_of fixed limit rows =
    record {
      family = fixed;
      ports = map (port_seen bytes_of) rows.ports.items;
      routes =
          rows.routes;
      limit = limit;
    }

-- The rows of either family.
abbrev pub any_seen : ℕ → AnyRows → Gathered
any_seen limit Free = record { family = None; ports = []; routes = no_routes; limit = limit }
any_seen limit (Ipv4 rows) = rows_seen (λ (a : List ℕ). a) (Some family.Ipv4) limit rows
any_seen limit (Ipv6 rows) = rows_seen (λ (a : List ℕ). a) (Some family.Ipv6) limit rows

-- All that is gathered.
abbrev pub gathered_seen : Setup → Gathered
gathered_seen setup = any_seen setup.limit setup.rows

-- The first address of a row.
abbrev pub first_address : AnyRow → AnyAddress
first_address (row.Port port) = port.address
first_address (row.Rp one) = one.prefix
first_address (row.Via one) = one.prefix

-- What the command of a row does.
abbrev pub Adds : AnyRow → Gathered → List ℕ → Gathered → Type 0
Adds (row.Port port) = AddsPort port
Adds (row.Rp one) = AddsRp one
Adds (row.Via one) = AddsVia one

-- The family that is fixed after a row of this family: by it, unless it was refused.
abbrev pub fixed_after : Option AddressFamily → AddressFamily → Result (Unit {0}) AnswerFault →
    Option AddressFamily
fixed_after fixed family (Ok done) = Some family
fixed_after fixed family (Err fault) = fixed

module _ {F A N : Type 0} (family : AddressFamily) (bytes_of : A → List ℕ) where
  -- What adding a row to the rows of a family does, whether the family was fixed before or is the
  -- one of the row's first address.
  abbrev pub AddsTo : (Gathered → List ℕ → Gathered → Type 0) → AnyAddress → Rows F A N →
      Result (Unit {0}) AnswerFault → Rows F A N →
      Type 0
  AddsTo Does address old result new = (fixed : Option AddressFamily) (limit : ℕ) →
      unwrap_or fixed (family_of address) ≡ family →
      Does (rows_seen bytes_of fixed limit old) (done_text result) (rows_seen bytes_of
      (fixed_after fixed family result) limit new)

-- What is gathered after the first row, where these rows are then there; nothing but the limit
-- after a fault.
abbrev pub first_seen : {X : Type 0} → (ℕ → X → Gathered) → ℕ → Result X AnswerFault → Gathered
first_seen seen limit (Ok rows) = seen limit rows
first_seen seen limit (Err fault) = any_seen limit Free

-- What adding the first row does.
abbrev pub AddsFirst : {X : Type 0} → (ℕ → X → Gathered) → AnyRow → Result X AnswerFault → Type 0
AddsFirst seen row result = (limit : ℕ) → Adds row (any_seen limit Free) (done_text result)
    (first_seen seen limit result)

-- The fault of a row that the table refuses, as one of the command.
abbrev pub IsAdded : Result (Unit {0}) RouteFault → Result (Unit {0}) AnswerFault → Type 0
IsAdded (Ok reported) (Ok done) = Unit {0}
IsAdded (Ok reported) (Err fault) = ⊥
IsAdded (Err reported) (Ok done) = ⊥
IsAdded (Err reported) (Err fault) = fault_words fault ≡ route_words reported

-- The row that a command adds, if it adds one.
abbrev pub row_in : Command → Option AnyRow
row_in (of_line.Port port) = Some (row.Port port)
row_in (of_line.Rp one) = Some (row.Rp one)
row_in (of_line.Via one) = Some (row.Via one)
row_in other = None

-- The router that `start` makes of rows of this family, or why there is none.
abbrev pub StartsRows : AddressFamily → Gathered → Result RouterState AnswerFault → Type 0
StartsRows family gathered (Ok router) = StartsIn family gathered ok_line (serving family router)
StartsRows family gathered (Err fault) = StartsIn family gathered (fault_line (fault_words fault))
    (gathering gathered)
