-- The messages of the change from one router's demand to that of another (RFC 7761, 4.5). A fresh
-- router that mirrors the first one hears them, and its messages must then be those of the second
-- one.
use Rattle.std.specs.Prelude.{◌≡◌, ◌⊎◌, ℕ, List, Option, Some, Result, Ok, Err}
use Rattle.std.specs.Io.KnownBytes.{Appends, Keeps}
use Rattle.pim_addr.specs.declared.family.AddressFamily.{AddressFamily}
use Rattle.pim_device.specs.Device.{AppendsFront}
use Rattle.pim_form.specs.Messages.{Writing}
use Rattle.pim_form.specs.NormalForm.{GroupForm, IsFormOf}
use Rattle.pim_merge.specs.declared.end.End.{End}
use Rattle.pim_merge.specs.Next.{MergeState}
use Rattle.pim_report.specs.MessageText.{messages_text}
use Rattle.pim_router.specs.Canonical.{demanded, IsDemandedBy, IsFirstTooBig}
use Rattle.pim_router.specs.Change.{IsChangeOf}
use Rattle.pim_router.specs.State.{RouterState}
use Rattle.pim_run.specs.declared.fault.RunFault.TheVariants.{Output, Memory}
use Rattle.pim_exchange.specs.declared.fault.ExchangeFault.{ExchangeFault}
use Rattle.pim_exchange.specs.declared.fault.ExchangeFault.TheVariants.{Replay, TooBig, Full}
use Rattle.pim_exchange.specs.ChangeHearing.{HasRoom, HasNoRoom}
use Rattle.pim_exchange.specs.MirrorText.{agreed_text}
use Rattle.pim_exchange.specs.Runs.{AfterBoth}

-- These messages report to the writer's upstream neighbour how the demand toward it changes from
-- router `one` to router `other`.
pub record IsChangeBetween (family : AddressFamily) (writing : Writing) (one other : RouterState)
    (messages : List (List ℕ)) : Type 0 where
  pub form : List GroupForm
  pub was : IsFormOf family (demanded family writing.upstream one) form
  pub reported : IsChangeOf family writing form other messages

module _ (family : AddressFamily) (writing : Writing) (limit : ℕ) (one other : RouterState) where
  -- The canonical messages of the first router, and the messages of the change to the second one.
  -- `IsWritten` holds for the two lists.
  pub record Changes (IsWritten : List (List ℕ) → List (List ℕ) → Type 0) : Type 0 where
    pub before : List (List ℕ)
    pub demanded : IsDemandedBy family writing one before
    pub change : List (List ℕ)
    pub between : IsChangeBetween family writing one other change
    pub written : IsWritten before change

  -- What the call returns and writes that lets a fresh router hear the change. A star that is too
  -- big is one of the first router, or else of the second. `Full` means that the fresh router has
  -- no room for the first router's messages or for the change. It comes after the messages of the
  -- change were written. When memory is refused, the text ends before these messages or after them.
  abbrev pub ReportsChange : {A : Type 0} → (A → List ℕ) → Option (List ℕ) → Option (List ℕ) →
      Result ℕ (ExchangeFault A) → Type 0
  ReportsChange bytes_of old new (Ok status) = (status ≡ 0)
      × Changes (λ before change. HasRoom family one.routes writing limit before change
      × Appends old new (agreed_text change))
  ReportsChange bytes_of old new (Err (TooBig group)) =
      IsFirstTooBig family writing one other (Some (bytes_of group)) × Keeps old new
  ReportsChange bytes_of old new (Err (Full needed)) =
      Changes (λ before change. HasNoRoom family one.routes writing limit before change needed
      × Appends old new (messages_text change))
  ReportsChange bytes_of old new (Err (Replay Output)) =
      Changes (λ before change. AppendsFront old new (agreed_text change))
  ReportsChange bytes_of old new (Err (Replay Memory)) =
      Keeps old new ⊎ Changes (λ before change. Appends old new (messages_text change))
  ReportsChange bytes_of old new (Err fault) = ⊥

-- What `change_into` returns and writes: it reports the change after both replays.
abbrev pub WritesChange : {A : Type 0} → AddressFamily → End → Writing → ℕ → MergeState → MergeState → RouterState →
    RouterState → MergeState → MergeState → RouterState → RouterState → (A → List ℕ) → Option (List ℕ) →
    Option (List ℕ) → Result ℕ (ExchangeFault A) → Type 0
WritesChange family end writing limit merge merge' state after other other' state_of after_of bytes_of old new =
    AfterBoth family end merge merge' state after other other' state_of after_of old new
    (ReportsChange family writing limit after after_of bytes_of old new)
