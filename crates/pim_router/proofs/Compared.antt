-- What two routers ask of one upstream neighbour.
use Rattle.pim_router.proofs.Words.{◌≡◌, ◌↔◌, ℕ, List, sym, subst, AddressFamily, IsRouteTable, rp_of, Writing, IsWriting}
use Rattle.pim_router.proofs.Words.{AreCanonical, IsFormOf, Agree, demand_toward, SameMessagesSameDemandToward, RouterState}
use Rattle.pim_router.specs.Canonical.{demanded, IsDemandedBy}

-- The messages of two routers with one table are the same exactly if the routers want the same.
pub same_exactly : (family : AddressFamily) (writing : Writing) (one other : RouterState) (first second : List (List ℕ)) → SameMessagesSameDemandToward
    → IsRouteTable family one.routes → IsWriting family writing → one.routes ≡ other.routes
    → IsDemandedBy family writing one first → IsDemandedBy family writing other second
    → (first ≡ second) ↔ Agree family (demanded family writing.upstream one) (demanded family writing.upstream other)
same_exactly family writing one other first second law sound is_writing e by_first by_second =
    let is : IsFormOf family (demand_toward family one.routes writing.upstream other.machines) by_second.form =
    subst (λ table. IsFormOf family (demand_toward family table writing.upstream other.machines) by_second.form) (sym e) by_second.is in
    let reported : AreCanonical family writing (rp_of family one.routes) by_second.form second =
    subst (λ table. AreCanonical family writing (rp_of family table) by_second.form second) (sym e) by_second.reported in
    subst (λ table. (first ≡ second)
    ↔ Agree family (demand_toward family one.routes writing.upstream one.machines) (demand_toward family table writing.upstream other.machines)) e
    (law family one.routes writing one.machines other.machines by_first.form by_second.form first second sound is_writing by_first.is is by_first.reported reported)
