-- The canonical messages of a replay's final state, and the check that a fresh router that hears
-- them has the same messages.
use Rattle.std.specs.Prelude.{◌≡◌, ◌≢◌, ◌⊎◌, ℕ, List, ◌++◌, codes, Option, None, Some, Result, Ok, Err}
use Rattle.std.specs.Io.KnownBytes.{Appends, Keeps}
use Rattle.pim_addr.specs.declared.family.AddressFamily.{AddressFamily}
use Rattle.pim_device.specs.Device.{AppendsFront}
use Rattle.pim_form.specs.Messages.{Writing}
use Rattle.pim_lines.specs.Pieces.{line}
use Rattle.pim_merge.specs.declared.end.End.{End}
use Rattle.pim_merge.specs.Next.{MergeState}
use Rattle.pim_report.specs.MessageText.{messages_text}
use Rattle.pim_router.specs.Canonical.{IsDemandedBy, IsTooBig}
use Rattle.pim_router.specs.State.{RouterState}
use Rattle.pim_run.specs.declared.fault.RunFault.TheVariants.{Output, Memory}
use Rattle.pim_exchange.specs.declared.fault.ExchangeFault.{ExchangeFault}
use Rattle.pim_exchange.specs.declared.fault.ExchangeFault.TheVariants.{Replay, TooBig, Full}
use Rattle.pim_exchange.specs.FreshHearing.{HaveRoom, IsFull}
use Rattle.pim_exchange.specs.Runs.{AfterOne}

-- ---- the text

-- The line that says that two lists of messages are the same.
abbrev pub agrees_line : List ℕ
agrees_line = line (codes "agrees")

-- The text is `agrees` if the messages are the same, and `differs` if they aren't.
pub record Judges (one other : List (List ℕ)) (text : List ℕ) : Type 0 where
  pub same : one ≡ other → text ≡ agrees_line
  pub different : one ≢ other → text ≡ line (codes "differs")

-- The lines of the messages, then `agrees`.
abbrev pub agreed_text : List (List ℕ) → List ℕ
agreed_text messages = messages_text messages ++ agrees_line

-- ---- the result

module _ (family : AddressFamily) (writing : Writing) (limit : ℕ) (router : RouterState) where
  -- These are the canonical messages of the router's demand toward the writer's upstream neighbour,
  -- and `IsWritten` holds for them.
  pub record Demands (IsWritten : List (List ℕ) → Type 0) : Type 0 where
    pub messages : List (List ℕ)
    pub demanded : IsDemandedBy family writing router messages
    pub written : IsWritten messages

  -- What the call returns and writes that lets a fresh router hear these messages. `Full` means
  -- that it has no room for all of them. It comes after their lines were written. When memory is
  -- refused, the text ends before these lines or after them.
  abbrev pub Exchanges : {A : Type 0} → (A → List ℕ) → Option (List ℕ) → Option (List ℕ) →
      Result ℕ (ExchangeFault A) → Type 0
  Exchanges bytes_of old new (Ok status) = (status ≡ 0)
      × Demands (λ messages. HaveRoom family router.routes writing limit messages × Appends old new (agreed_text messages))
  Exchanges bytes_of old new (Err (TooBig group)) =
      IsTooBig family writing router (Some (bytes_of group)) × Keeps old new
  Exchanges bytes_of old new (Err (Full needed)) =
      Demands (λ messages. IsFull family router.routes writing limit messages needed
      × Appends old new (messages_text messages))
  Exchanges bytes_of old new (Err (Replay Output)) = Demands (λ messages. AppendsFront old new (agreed_text messages))
  Exchanges bytes_of old new (Err (Replay Memory)) =
      Keeps old new ⊎ Demands (λ messages. Appends old new (messages_text messages))
  Exchanges bytes_of old new (Err fault) = ⊥

-- What `mirror_into` returns and writes: the exchange after the replay.
abbrev pub WritesMirror : {A : Type 0} → AddressFamily → End → Writing → ℕ → MergeState → MergeState → RouterState →
    RouterState → (A → List ℕ) → Option (List ℕ) → Option (List ℕ) → Result ℕ (ExchangeFault A) → Type 0
WritesMirror family end writing limit merge merge' state after bytes_of old new =
    AfterOne family end merge merge' state after old new (Exchanges family writing limit after bytes_of old new)

-- ---- used by private functions only

-- What the step returns that makes the canonical messages of a router.
abbrev pub DemandsBy : {A : Type 0} → (A → List ℕ) → AddressFamily → Writing → RouterState →
    Result (List (List ℕ)) (ExchangeFault A) → Type 0
DemandsBy bytes_of family writing router (Ok messages) =
    IsDemandedBy family writing router messages × IsTooBig family writing router None
DemandsBy bytes_of family writing router (Err (TooBig group)) = IsTooBig family writing router (Some (bytes_of group))
DemandsBy bytes_of family writing router (Err (Replay Memory)) = Unit {0}
DemandsBy bytes_of family writing router (Err fault) = ⊥
