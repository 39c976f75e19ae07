-- The parts of a normal form that its canonical Join/Prune messages announce, one part each (RFC
-- 7761, 4.9.5).
use Rattle.std.specs.Prelude.{◌≡◌, ℕ, true, List, [], ◌∷◌, Option}
use Rattle.std.specs.List.{AllByRecursion, flat_map}
use Rattle.pim_addr.specs.declared.family.AddressFamily.{AddressFamily}
use Rattle.pim_frame.specs.Frame.{all_routers}
use Rattle.pim_frame.specs.Seal.{IsSealed}
use Rattle.pim_frame.specs.declared.frame.MessageType.TheVariants.{JoinPrune}
use Rattle.pim_jp.specs.Canonical.{canonical}
use Rattle.pim_form.specs.NormalForm.{GroupForm, AreAscending, groups_of, IsNormal}
use Rattle.pim_form.specs.Rows.{exceptions_of}
use Rattle.pim_form.specs.Units.{units_of}
use Rattle.pim_form.specs.Packing.{fits}
use Rattle.pim_form.specs.Messages.{Writing, HaveRps, written_message}

-- The exceptions and the sources of a group are in strictly ascending order.
pub record HasListsInOrder (this : GroupForm) : Type 0 where
  pub exceptions : AreAscending (exceptions_of this.star)
  pub sources : AreAscending this.sources

-- The groups of a part, and the exceptions and sources of each, are in strictly ascending order.
pub record IsInOrder (part : List GroupForm) : Type 0 where
  pub groups : AreAscending (groups_of part)
  pub lists : AllByRecursion HasListsInOrder part

-- The bytes are the Join/Prune message of a part, written canonically and sealed for
-- ALL-PIM-ROUTERS.
abbrev pub CarriesPart : AddressFamily → Writing → (List ℕ → Option (List ℕ)) → List GroupForm → List ℕ → Type 0
CarriesPart family writing rps part bytes =
    IsSealed family writing.own (all_routers family) JoinPrune (canonical family (written_message writing rps part)) bytes

-- The messages are one for each part, in order.
unfoldable pub CarryParts : AddressFamily → Writing → (List ℕ → Option (List ℕ)) → List (List GroupForm) → List (List ℕ) → Type 0
CarryParts family writing rps [] [] = Unit {0}
CarryParts family writing rps [] (bytes ∷ messages) = ⊥
CarryParts family writing rps (part ∷ parts) [] = ⊥
CarryParts family writing rps (part ∷ parts) (bytes ∷ messages) =
    CarriesPart family writing rps part bytes × CarryParts family writing rps parts messages

-- The messages announce these parts of the form, one each. Each part is a normal form that fits its
-- message and whose stars have RPs. The units of all parts, in order, are those of the form.
pub record AreParts (family : AddressFamily) (writing : Writing) (rps : List ℕ → Option (List ℕ)) (form : List GroupForm)
    (messages : List (List ℕ)) (parts : List (List GroupForm)) : Type 0 where
  pub normal : AllByRecursion (IsNormal family) parts
  pub have : AllByRecursion (HaveRps family rps) parts
  pub fitting : AllByRecursion (λ part. fits family writing.budget (units_of part) ≡ true) parts
  pub whole : flat_map units_of parts ≡ units_of form
  pub reported : CarryParts family writing rps parts messages
