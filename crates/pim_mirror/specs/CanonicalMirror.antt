-- The state of a port after the canonical messages of a form (RFC 7761, 4.1).
use Rattle.std.specs.Prelude.{◌≡◌, ℕ, ◌<◌, true, List}
use Rattle.pim_addr.specs.declared.family.AddressFamily.{AddressFamily}
use Rattle.pim_addr.specs.Routes.{RouteTable, rp_of}
use Rattle.pim_down.specs.Time.{Downstream}
use Rattle.pim_form.specs.declared.tree.Tree.{Tree}
use Rattle.pim_form.specs.NormalForm.{GroupForm, form_wants, IsFormOf}
use Rattle.pim_form.specs.Messages.{Writing, AreCanonical}
use Rattle.pim_form.specs.TowardLaws.{demand_toward}
use Rattle.pim_form.specs.Wants.{wants}
use Rattle.pim_fresh.specs.Deliveries.{Delivery, is_delivered}

-- Each message with a number below `count` was delivered.
abbrev pub AllCame : ℕ → List Delivery → Type 0
AllCame count deliveries = (message : ℕ) → message < count → is_delivered message deliveries ≡ true

-- The machines want exactly what the form wants, for all byte lists as source and group, valid or
-- not. The form is the only normal form of what they ask of the writer's upstream neighbour, and
-- any canonical messages of that are these.
pub record DemandsAgain (family : AddressFamily) (table : RouteTable) (writing : Writing) (form : List GroupForm)
    (messages : List (List ℕ)) (state : Downstream) : Type 0 where
  pub wanted : (source group : List ℕ) (tree : Tree) → wants state source group tree ≡ form_wants form source group tree
  pub is_form : IsFormOf family (demand_toward family table writing.upstream state) form
  pub one_form : (other : List GroupForm) → IsFormOf family (demand_toward family table writing.upstream state) other →
      other ≡ form
  pub same_messages : (other : List GroupForm) (others : List (List ℕ)) →
      IsFormOf family (demand_toward family table writing.upstream state) other →
      AreCanonical family writing (rp_of family table) other others → others ≡ messages
