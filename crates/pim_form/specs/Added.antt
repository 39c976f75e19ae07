-- Appending the message of a part of a form to a byte string or to a list of messages.
use Rattle.std.specs.Prelude.{◌≡◌, ℕ, List, [], ◌∷◌, ◌++◌, Option}
use Rattle.pim_addr.specs.declared.family.AddressFamily.{AddressFamily}
use Rattle.pim_frame.specs.Frame.{all_routers}
use Rattle.pim_frame.specs.Seal.{IsSealed}
use Rattle.pim_frame.specs.declared.frame.MessageType.TheVariants.{JoinPrune}
use Rattle.pim_jp.specs.Canonical.{canonical}
use Rattle.pim_form.specs.NormalForm.{GroupForm}
use Rattle.pim_form.specs.Messages.{Writing, written_message}

module _ (family : AddressFamily) (writing : Writing) (rps : List ℕ → Option (List ℕ)) (part : List GroupForm) where
  -- The bytes are the canonical Join/Prune message (RFC 7761, 4.9.5) of the part, sealed from the
  -- writer's own address to ALL-PIM-ROUTERS.
  abbrev pub CarriesPart : List ℕ → Type 0
  CarriesPart bytes = IsSealed family writing.own (all_routers family) JoinPrune
      (canonical family (written_message writing rps part)) bytes

  -- The byte string grew at its end by the message of the part.
  pub record IsAppended (before after : List ℕ) : Type 0 where
    pub message : List ℕ
    pub more : after ≡ before ++ message
    pub carries : CarriesPart message

  -- The list grew at its end by one message, the message of the part.
  pub record IsAdded (before after : List (List ℕ)) : Type 0 where
    pub message : List ℕ
    pub more : after ≡ before ++ message ∷ []
    pub carries : CarriesPart message
