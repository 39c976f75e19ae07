-- The canonical messages of a replay's final state, written as bytes. Two bytes with its length
-- precede each message.
use Rattle.std.specs.Prelude.{◌≡◌, ℕ, List, Option, None, Some, Result, Ok, Err}
use Rattle.std.specs.Io.KnownBytes.{Keeps}
use Rattle.pim_addr.specs.declared.family.AddressFamily.{AddressFamily}
use Rattle.pim_emit.specs.Written.{HaveGoneOut, HasGoneOut, IsTooBig}
use Rattle.pim_form.specs.Messages.{Writing}
use Rattle.pim_merge.specs.declared.end.End.{End}
use Rattle.pim_merge.specs.Next.{MergeState}
use Rattle.pim_router.specs.State.{RouterState}
use Rattle.pim_run.specs.declared.fault.RunFault.TheVariants.{Output, Memory}
use Rattle.pim_exchange.specs.declared.fault.ExchangeFault.{ExchangeFault}
use Rattle.pim_exchange.specs.declared.fault.ExchangeFault.TheVariants.{Replay, TooBig}
use Rattle.pim_exchange.specs.Runs.{AfterOne}

module _ (family : AddressFamily) (writing : Writing) (router : RouterState) where
  -- All canonical messages of the router's demand toward the writer's upstream neighbour were
  -- written.
  abbrev pub AllWentOut : Option (List ℕ) → Option (List ℕ) → Type 0
  AllWentOut old new = (count : ℕ) × HaveGoneOut family writing router.routes router.machines old new count

  -- In the normal form of that demand this is the least group whose star doesn't fit a message. It
  -- is `None` if there is no such group.
  abbrev pub IsTooBigThen : Option (List ℕ) → Type 0
  IsTooBigThen group = IsTooBig family writing router.routes router.machines group

  -- A prefix of these messages was written, and no star is too big.
  abbrev pub FrontWentOut : Option (List ℕ) → Option (List ℕ) → Type 0
  FrontWentOut old new =
      IsTooBigThen None × (sent : ℕ) × HasGoneOut family writing router.routes router.machines old new sent

  -- What the call returns and writes that sends these messages. Nothing is written if a star is too
  -- big or memory is refused, and a prefix of them if the device fails.
  abbrev pub SendsDemand : {A : Type 0} → (A → List ℕ) → Option (List ℕ) → Option (List ℕ) →
      Result ℕ (ExchangeFault A) → Type 0
  SendsDemand bytes_of old new (Ok status) = (status ≡ 0) × AllWentOut old new
  SendsDemand bytes_of old new (Err (TooBig group)) = IsTooBigThen (Some (bytes_of group)) × Keeps old new
  SendsDemand bytes_of old new (Err (Replay Output)) = FrontWentOut old new
  SendsDemand bytes_of old new (Err (Replay Memory)) = Keeps old new
  SendsDemand bytes_of old new (Err fault) = ⊥

-- What `emit_into` returns and writes: it sends the messages after the replay.
abbrev pub Emits : {A : Type 0} → AddressFamily → End → Writing → MergeState → MergeState → RouterState →
    RouterState → (A → List ℕ) → Option (List ℕ) → Option (List ℕ) → Result ℕ (ExchangeFault A) → Type 0
Emits family end writing merge merge' state after bytes_of old new =
    AfterOne family end merge merge' state after old new (SendsDemand family writing after bytes_of old new)
