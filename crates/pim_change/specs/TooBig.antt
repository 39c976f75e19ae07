-- Which new star of a change doesn't fit one message. RFC 7761, 4.9.5.2, forbids splitting its
-- exceptions over messages.
use Rattle.std.specs.Prelude.{ℕ, Bool, true, ◌||◌, List, [], ◌∷◌, Option, None, Some, if◌then◌else◌}
use Rattle.std.specs.Option.{is_some}
use Rattle.pim_addr.specs.declared.family.AddressFamily.{AddressFamily}
use Rattle.pim_form.specs.NormalForm.{GroupForm}
use Rattle.pim_form.specs.TooBig.{star_fits}
use Rattle.pim_change.specs.Change.{Action, star_joined, star_pruned, of_source, ChangeUnit}

-- A new star with all its exceptions fits a message alone, or the unit is a single entry.
abbrev pub action_fits : AddressFamily → ℕ → List ℕ → Action → Bool
action_fits family budget group (star_joined exceptions) = star_fits family budget group (Some exceptions)
action_fits family budget group star_pruned = true
action_fits family budget group (of_source kind source) = true

-- The first group of a change whose new star doesn't fit. It is the least one, since the groups of
-- a change between normal forms ascend.
unfoldable pub too_big : AddressFamily → ℕ → List ChangeUnit → Option (List ℕ)
too_big family budget [] = None
too_big family budget (this ∷ units) =
    if action_fits family budget this.group this.action then too_big family budget units else Some this.group

-- The group had a star before, or its new star, if it has one, fits a message alone.
abbrev pub star_change_fits : AddressFamily → ℕ → GroupForm → GroupForm → Bool
star_change_fits family budget old new = is_some old.star || star_fits family budget new.group new.star
