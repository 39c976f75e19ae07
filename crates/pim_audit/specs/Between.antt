-- What is due between both sides of an audit.
use Rattle.std.specs.Prelude.{◌≡◌, List}
use Rattle.pim_addr.specs.declared.family.AddressFamily.{AddressFamily}
use Rattle.pim_down.specs.Hearing.{Event}
use Rattle.pim_form.specs.NormalForm.{GroupForm, IsFormOf}
use Rattle.pim_form.specs.Wants.{wants}
use Rattle.pim_audit.specs.Entries.{due_entries}
use Rattle.pim_audit.specs.Sides.{SidesState, wanted_demand}

-- These entries are due toward an upstream neighbour. They are those of a change (RFC 7761, 4.5):
-- from the normal form of what the neighbour was asked for to that of what the router wants of it.
pub record AreDue (family : AddressFamily) (sides : SidesState) (entries : List Event) : Type 0 where
  pub old : List GroupForm
  pub new : List GroupForm
  pub of_asked : IsFormOf family (wants sides.asked) old
  pub of_wanted : IsFormOf family (wanted_demand family sides) new
  pub are : entries ≡ due_entries old new
