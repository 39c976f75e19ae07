-- The Join/Prune messages that ask for what the machines of an upstream neighbour hold.
use Rattle.std.specs.Prelude.{ℕ, List, Option}
use Rattle.pim_addr.specs.declared.family.AddressFamily.{AddressFamily}
use Rattle.pim_down.specs.Time.{Downstream}
use Rattle.pim_form.specs.Messages.{Writing, AreCanonical}
use Rattle.pim_form.specs.NormalForm.{GroupForm, IsFormOf}
use Rattle.pim_form.specs.Wants.{wants}

-- The messages are canonical messages of the normal form of what these machines want (RFC 7761,
-- 4.1 and 4.9.5). `rps` gives RP(G) of each group.
pub record IsAskedBy (family : AddressFamily) (writing : Writing) (rps : List ℕ → Option (List ℕ)) (asked : Downstream)
    (messages : List (List ℕ)) : Type 0 where
  pub form : List GroupForm
  pub is : IsFormOf family (wants asked) form
  pub reported : AreCanonical family writing rps form messages
