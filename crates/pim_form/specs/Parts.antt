-- The parts of a form from which messages are made.
use Rattle.std.specs.Prelude.{◌≡◌, ℕ, ◌+◌, true, List, [], ◌∷◌, Option}
use Rattle.pim_addr.specs.declared.family.AddressFamily.{AddressFamily}
use Rattle.pim_form.specs.declared.place.GroupPlace.{GroupPlace}
use Rattle.pim_form.specs.Units.{WantUnit, run_size}
use Rattle.pim_form.specs.Packing.{fits}
use Rattle.pim_form.specs.Messages.{HaveRps}
use Rattle.pim_form.specs.Rows.{form_seen, IsKept}
use Rattle.pim_form.specs.Plan.{run_of}

module _ {A : Type 0} (bytes_of : A → List ℕ) (family : AddressFamily) where
  -- The groups at these places are a normal form whose units fit one message.
  pub record IsFitting (budget : ℕ) (row : List A) (part : List (GroupPlace A)) : Type 0 where
    pub kept : IsKept bytes_of family row part
    pub fitting : fits family budget (run_of bytes_of row part) ≡ true

  -- Each star at these places has an RP that is a valid source address.
  abbrev pub PartHasRps : (List ℕ → Option (List ℕ)) → List A → List (GroupPlace A) → Type 0
  PartHasRps rps row part = HaveRps family rps (form_seen bytes_of row part)

-- The number of bytes of the messages of all runs together.
unfoldable pub runs_size : AddressFamily → List (List WantUnit) → ℕ
runs_size family [] = 0
runs_size family (run ∷ runs) = run_size family run + runs_size family runs
