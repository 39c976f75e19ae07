-- The star of a change that is too big, found without the change.
use Rattle.pim_router.proofs.Words.{◌≡◌, ◌∙◌, ℕ, List, Option, subst, AddressFamily, RouteTable, Downstream, Writing}
use Rattle.pim_router.proofs.Words.{GroupForm, IsNormal, IsFormOf, demand_toward, NewStarsAloneAreTooBig, RouterState}
use Rattle.pim_emit.specs.Written.{IsNewTooBig}
use Rattle.pim_router.specs.Change.{IsChangeTooBig}

pub to_tell : NewStarsAloneAreTooBig → (family : AddressFamily) (writing : Writing) (last : List GroupForm) (state : RouterState) (table : RouteTable) (machines : Downstream) (group : Option (List ℕ))
    → table ≡ state.routes → machines ≡ state.machines → IsNormal family last → IsNewTooBig family writing table machines last group → IsChangeTooBig family writing last state group
to_tell law family writing last state table machines group same_table same_machines normal new = record {
  form = new.form;
  is = subst (λ (t : RouteTable). IsFormOf family (demand_toward family t writing.upstream state.machines) new.form) same_table
      (subst (λ (m : Downstream). IsFormOf family (demand_toward family table writing.upstream m) new.form) same_machines new.is);
  least = law family writing.budget last new.form normal new.is.normal ∙ new.least;
}
