-- The Joins and Prunes that move a neighbour from one form to another, machine by machine (RFC
-- 7761, 4.5 and 4.9.5.1).
use Rattle.std.specs.Prelude.{◌≡◌, ℕ, Bool, true, false, if◌then◌else◌, List, [], ◌∷◌, Option, None, Some}
use Rattle.std.specs.Option.{is_some}
use Rattle.pim_down.specs.declared.machines.key.What.{What}
use Rattle.pim_down.specs.declared.machines.key.What.TheVariants.{Star, Source, Rpt}
use Rattle.pim_down.specs.declared.machines.key.Key.{Key}
use Rattle.pim_down.specs.Hearing.{Event, is_star_join}
use Rattle.pim_form.specs.NormalForm.{GroupForm, is_listed}
use Rattle.pim_form.specs.Rows.{exceptions_of}
use Rattle.pim_form.specs.Settled.{group_in}
use Rattle.pim_fresh.specs.Exchange.{Exchange, has_unit_of}
use Rattle.pim_fresh.specs.Deliveries.{Delivery, is_delivered}

-- ---- what a change says of a machine: `Some true` a Join, `Some false` a Prune, `None` nothing

-- A Join of what only the new form asks for, a Prune of what only the old form asks for, else
-- nothing.
abbrev pub carried_if : Bool → Bool → Option Bool
carried_if false false = None
carried_if false true = Some true
carried_if true false = Some false
carried_if true true = None

-- An exception that is new, or whose star is new, is pruned. An exception that goes is joined if
-- its star stays.
abbrev pub rpt_carried : Option (List (List ℕ)) → Option (List (List ℕ)) → List ℕ → Option Bool
rpt_carried None None source = None
rpt_carried None (Some exceptions) source = if is_listed source exceptions then Some false else None
rpt_carried (Some excepted) None source = None
rpt_carried (Some excepted) (Some exceptions) source = carried_if (is_listed source exceptions) (is_listed source excepted)

-- What the change of a group from the old to the new form says of a machine.
abbrev pub carried_of : GroupForm → GroupForm → What (List ℕ) → Option Bool
carried_of old new Star = carried_if (is_some old.star) (is_some new.star)
carried_of old new (Source source) = carried_if (is_listed source old.sources) (is_listed source new.sources)
carried_of old new (Rpt source) = rpt_carried old.star new.star source

-- ---- the events of a message

-- The event is what the change says of its machine.
abbrev pub IsCarried : List GroupForm → List GroupForm → Event → Type 0
IsCarried old new event = carried_of (group_in event.group old) (group_in event.group new) event.what ≡ Some event.joins

-- The (S,G,rpt) machine of a source and a group on the port.
abbrev pub rpt_at : ℕ → List ℕ → List ℕ → Key (List ℕ)
rpt_at port group source = record { port = port; group = group; what = Rpt source }

-- After a Join(*,G) each exception of the new star is named by a later event of the message.
abbrev pub ExceptionsFollow : ℕ → List GroupForm → Event → List Event → Type 0
ExceptionsFollow port new event events = (source : List ℕ) → is_star_join event ≡ true →
    is_listed source (exceptions_of (group_in event.group new).star) ≡ true →
    has_unit_of port (rpt_at port event.group source) events ≡ true

-- Each event of a message is what the change says, and the exceptions of a new star follow its
-- Join(*,G).
unfoldable pub CarriesOnly : ℕ → List GroupForm → List GroupForm → List Event → Type 0
CarriesOnly port old new [] = Unit {0}
CarriesOnly port old new (event ∷ events) =
    IsCarried old new event × ExceptionsFollow port new event events × CarriesOnly port old new events

-- ---- all messages

-- A message that came names the machine.
pub record Came (exchange : Exchange) (deliveries : List Delivery) (key : Key (List ℕ)) : Type 0 where
  pub message : ℕ
  pub delivered : is_delivered message deliveries ≡ true
  pub has_unit : has_unit_of exchange.port key (exchange.messages message) ≡ true

-- No message says anything else than the change, and all that the change says came.
pub record CarriesChange (exchange : Exchange) (old new : List GroupForm) (deliveries : List Delivery) : Type 0 where
  pub only : (message : ℕ) → CarriesOnly exchange.port old new (exchange.messages message)
  pub all : (group : List ℕ) (what : What (List ℕ)) (joins : Bool) →
      carried_of (group_in group old) (group_in group new) what ≡ Some joins →
      Came exchange deliveries (record { port = exchange.port; group = group; what = what })
