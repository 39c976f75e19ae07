-- What is written of a state: its canonical Join/Prune messages, each after two bytes of its
-- length.
use Rattle.std.specs.Prelude.{◌≡◌, ℕ, ◌+◌, ◌≤◌, List, [], ◌++◌, Option, None, Some, Result, Ok, Err, length, take, min}
use Rattle.std.specs.Prelude.{not, is_some}
use Rattle.std.specs.List.{filter, flat_map}
use Rattle.std.specs.Io.KnownBytes.{Appends}
use Rattle.byteorder.specs.Endian.{big_bytes}
use Rattle.pim_addr.specs.declared.family.AddressFamily.{AddressFamily}
use Rattle.pim_addr.specs.Routes.{RouteTable, rp_of}
use Rattle.pim_device.specs.Device.{top_count}
use Rattle.pim_down.specs.Time.{Downstream}
use Rattle.pim_form.specs.Messages.{Writing, AreCanonical}
use Rattle.pim_form.specs.NormalForm.{GroupForm, IsFormOf}
use Rattle.pim_form.specs.TooBig.{too_big}
use Rattle.pim_form.specs.TowardLaws.{demand_toward}
use Rattle.pim_emit.specs.declared.fault.WriteFault.{WriteFault}
use Rattle.pim_emit.specs.declared.fault.WriteFault.TheVariants.{TooBig, Output}
use Rattle.pim_emit.specs.Left.{star_of}

-- A message after its length as two bytes, big-endian.
abbrev pub framed : List ℕ → List ℕ
framed message = big_bytes 2 (length message) ++ message

-- Messages, each after its length.
abbrev pub all_framed : List (List ℕ) → List ℕ
all_framed messages = flat_map framed messages

module _ (family : AddressFamily) (writing : Writing) (table : RouteTable) (state : Downstream) where
  -- These are the canonical messages of the normal form of what the ports want of the writer's
  -- upstream neighbour (RFC 7761, 4.1 and 4.9.5).
  pub record DemandBy (messages : List (List ℕ)) : Type 0 where
    pub form : List GroupForm
    pub is : IsFormOf family (demand_toward family table writing.upstream state) form
    pub reported : AreCanonical family writing (rp_of family table) form messages

  -- The least group of that form whose star, with all its exceptions, is too big for a message
  -- alone; `None` if no star is.
  pub record IsTooBig (group : Option (List ℕ)) : Type 0 where
    pub form : List GroupForm
    pub is : IsFormOf family (demand_toward family table writing.upstream state) form
    pub least : too_big family writing.budget form ≡ group

  -- The least group of that form of which the form `last` has no star, and whose star, with all its
  -- exceptions, is too big for a message alone; `None` if there is none.
  pub record IsNewTooBig (last : List GroupForm) (group : Option (List ℕ)) : Type 0 where
    pub form : List GroupForm
    pub is : IsFormOf family (demand_toward family table writing.upstream state) form
    pub least : too_big family writing.budget (filter (λ this. not (is_some (star_of this.group last))) form) ≡ group

  -- All canonical messages were appended, each after its length; `count` is their number.
  pub record HaveGoneOut (old new : Option (List ℕ)) (count : ℕ) : Type 0 where
    pub messages : List (List ℕ)
    pub demand_by : DemandBy messages
    pub counted : count ≡ length messages
    pub gone : Appends old new (all_framed messages)

  -- Whichever messages are the canonical ones, their first `sent` bytes were appended, lengths
  -- included.
  abbrev pub HasGoneOut : Option (List ℕ) → Option (List ℕ) → ℕ → Type 0
  HasGoneOut old new sent = (messages : List (List ℕ)) → DemandBy messages →
      (sent ≤ length (all_framed messages)) × Appends old new (take sent (all_framed messages))

  -- What a result says of the bytes that were appended. After `TooBig` none were.
  abbrev pub IsWritten : {N A F : Type 0} → Option (List ℕ) → Option (List ℕ) → Result ℕ (WriteFault F A N) → Type 0
  IsWritten old new (Ok count) = HaveGoneOut old new count
  IsWritten old new (Err (TooBig group)) = Appends old new []
  IsWritten old new (Err (Output sent)) = HasGoneOut old new sent

-- The group that is reported as too big, if one is.
abbrev pub group_too_big : {T F A N : Type 0} → Result T (WriteFault F A N) → Option A
group_too_big (Ok count) = None
group_too_big (Err (TooBig group)) = Some group
group_too_big (Err (Output sent)) = None

-- The device's count of failures after a call: one more, up to its top, exactly if its failure is
-- the result.
abbrev pub failures_of_write : {T F A N : Type 0} → ℕ → Result T (WriteFault F A N) → ℕ
failures_of_write before (Ok count) = before
failures_of_write before (Err (TooBig group)) = before
failures_of_write before (Err (Output sent)) = min (before + 1) top_count
