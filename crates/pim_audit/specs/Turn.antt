-- A turn of an audit: time passes up to the moment of a record, a look, the message of the record if
-- it has one, and a look.
use Rattle.std.specs.Prelude.{◌≡◌, ℕ, List, [], Option, None, Some}
use Rattle.pim_addr.specs.declared.family.AddressFamily.{AddressFamily}
use Rattle.pim_router.specs.Reading.{Reading, reading_seen}
use Rattle.pim_router.specs.State.{RouterState}
use Rattle.pim_audit.specs.declared.taking.Effect.{Effect}
use Rattle.pim_audit.specs.declared.taking.Effect.TheVariants.{Unchanged}
use Rattle.pim_audit.specs.declared.turn.Received.{Received}
use Rattle.pim_audit.specs.declared.turn.TurnReport.{TurnReport}
use Rattle.pim_audit.specs.Audited.{AuditState, LooksAt, with_due}
use Rattle.pim_audit.specs.Seen.{report_seen}
use Rattle.pim_audit.specs.Steps.{PassesAll}
use Rattle.pim_audit.specs.Taking.{TakesMessage}

-- A message of a record: its IP source, and what it reads as.
pub record ReceivedMessage : Type 0 where
  pub source : List ℕ
  pub reading : Reading

-- A message of the code as such a message.
abbrev pub received_seen : {F A N : Type 0} → AddressFamily → (A → List ℕ) → Received F A N → ReceivedMessage
received_seen family bytes_of received =
    record { source = bytes_of received.source; reading = reading_seen family received.message }

-- The audit and the router before the message: time has passed, and a look has followed.
pub record ReachesTurn {A : Type 0} (family : AddressFamily) (bytes_of : A → List ℕ) (moment : ℕ) (audit : AuditState) (router : RouterState)
    (report : TurnReport A) (looked : AuditState) (router' : RouterState) : Type 0 where
  pub passed : AuditState
  pub passes : PassesAll family bytes_of moment [] audit router report.ended.items passed router'
  pub looks : LooksAt family passed router' (report_seen bytes_of looked.due report.before)
  pub rest : looked ≡ with_due passed looked.due

-- The port takes the message of a record, if it has one.
abbrev pub TakesIfAny : AddressFamily → ℕ → Option ReceivedMessage → AuditState → RouterState → Effect → AuditState →
    RouterState → Type 0
TakesIfAny family port None audit router effect after router' = (effect ≡ Unchanged) × (after ≡ audit) × (router' ≡ router)
TakesIfAny family port (Some received) audit router effect after router' =
    TakesMessage family port received.source received.reading audit router effect after router'

-- The whole turn.
pub record TakesTurn {A : Type 0} (family : AddressFamily) (bytes_of : A → List ℕ) (moment port : ℕ) (message : Option ReceivedMessage)
    (audit : AuditState) (router : RouterState) (report : TurnReport A) (after : AuditState) (router' : RouterState) : Type 0 where
  pub looked : AuditState
  pub reached : RouterState
  pub taken : AuditState
  pub comes : ReachesTurn family bytes_of moment audit router report looked reached
  pub takes : TakesIfAny family port message looked reached report.effect taken router'
  pub looks : LooksAt family taken router' (report_seen bytes_of after.due report.after)
  pub rest : after ≡ with_due taken after.due
