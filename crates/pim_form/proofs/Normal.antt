-- What a normal form's groups have.
use Rattle.pim_form.proofs.Words.{List, [], ◌∷◌, AllByRecursion, AddressFamily, GroupForm, IsNormalGroup}
use Rattle.pim_form.proofs.Units.{IsSome}

pub groups_some : (family : AddressFamily) (form : List GroupForm) → AllByRecursion (IsNormalGroup family) form → AllByRecursion IsSome form
groups_some family [] are = tt
groups_some family (this ∷ form) are = (are.0.some, groups_some family form are.1)
