-- What is asked of an upstream neighbour, as contracts see it.
use Rattle.std.specs.Prelude.{List}
use Rattle.pim_addr.specs.Routes.{RouteTable}
use Rattle.pim_down.specs.Time.{Downstream}
use Rattle.pim_form.specs.NormalForm.{GroupForm}

-- What is asked of an upstream neighbour: its normal form, the route table with the RPs of the
-- groups, and the machines that the form follows from.
pub record DemandSeen : Type 0 where
  pub form : List GroupForm
  pub table : RouteTable
  pub machines : Downstream
