-- How a form is cut into messages. A plan has the pieces of the form's groups in order, and where
-- the pieces of each message end. A piece is a place in the form's row, as a group is.
use Rattle.std.specs.Prelude.{◌≡◌, ℕ, ◌≤◌, List, [], ◌∷◌, length, map}
use Rattle.std.specs.List.{AllByRecursion}
use Rattle.pim_addr.specs.declared.family.AddressFamily.{AddressFamily}
use Rattle.pim_form.specs.declared.place.GroupPlace.{GroupPlace}
use Rattle.pim_form.specs.Units.{WantUnit, units_of}
use Rattle.pim_form.specs.Packing.{IsPacking}
use Rattle.pim_form.specs.Rows.{between, form_seen, IsKept}

-- The pieces of each message; those of the first begin at `start`.
unfoldable pub parts_from : {A : Type 0} → ℕ → List ℕ → List (GroupPlace A) → List (List (GroupPlace A))
parts_from start [] pieces = []
parts_from start (end ∷ ends) pieces = between start end pieces ∷ parts_from end ends pieces

-- The ends don't descend from `start`, and the last of them is `last`.
unfoldable pub AreEnds : ℕ → ℕ → List ℕ → Type 0
AreEnds start last [] = start ≡ last
AreEnds start last (end ∷ ends) = (start ≤ end) × (end ≤ last) × AreEnds end last ends

module _ {A : Type 0} (bytes_of : A → List ℕ) where
  -- The units of the groups at these places.
  abbrev pub run_of : List A → List (GroupPlace A) → List WantUnit
  run_of row part = units_of (form_seen bytes_of row part)

  -- The pieces of each message are a normal form, and their units are the runs of a packing of the
  -- form's units.
  pub record IsPlan (family : AddressFamily) (budget : ℕ) (row : List A) (places pieces : List (GroupPlace A))
      (ends : List ℕ) : Type 0 where
    pub whole : AreEnds 0 (length pieces) ends
    pub kept : AllByRecursion (IsKept bytes_of family row) (parts_from 0 ends pieces)
    pub packing : IsPacking family budget (run_of row places) (map (run_of row) (parts_from 0 ends pieces))
