-- Which group's star doesn't fit one message. RFC 7761, 4.9.5.2, forbids splitting its exceptions
-- over messages. It sends the first exceptions that fit, where this project refuses to send any.
use Rattle.std.specs.Prelude.{ℕ, Bool, true, List, [], ◌∷◌, Option, None, Some, if◌then◌else◌}
use Rattle.pim_addr.specs.declared.family.AddressFamily.{AddressFamily}
use Rattle.pim_form.specs.NormalForm.{GroupForm}
use Rattle.pim_form.specs.Units.{star_unit}
use Rattle.pim_form.specs.Packing.{fits}

-- The star with all its exceptions fits a message alone. A group without a star fits.
abbrev pub star_fits : AddressFamily → ℕ → List ℕ → Option (List (List ℕ)) → Bool
star_fits family budget group None = true
star_fits family budget group (Some exceptions) = fits family budget (star_unit group exceptions ∷ [])

-- The first group whose star doesn't fit. It is the least one, since the groups of a normal form
-- ascend.
abbrev pub too_big : AddressFamily → ℕ → List GroupForm → Option (List ℕ)
too_big family budget [] = None
too_big family budget (this ∷ form) =
    if star_fits family budget this.group this.star then too_big family budget form else Some this.group
