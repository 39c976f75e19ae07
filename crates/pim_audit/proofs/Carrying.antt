-- What an audit holds as due stays right but for the touched machines.
use Rattle.std.proofs.Common.{◌≡◌, ◌∙◌, ℕ, Bool, true, false, ◌&&◌, ◌||◌, List, Option, refl, sym, ap, ap₂}
use Rattle.std.proofs.lemmas.Bool.{false≢true}
use Rattle.pim_addr.specs.declared.family.AddressFamily.{AddressFamily}
use Rattle.pim_addr.specs.Routes.{rp_of}
use Rattle.pim_down.specs.declared.machines.key.What.{What}
use Rattle.pim_down.specs.declared.machines.key.What.TheVariants.{Star, Source, Rpt}
use Rattle.pim_down.specs.Time.{Downstream}
use Rattle.pim_form.specs.Toward.{via_of, is_neighbour, star_rpf_neighbour, rpf_neighbour}
use Rattle.pim_form.specs.Wants.{wants}
use Rattle.pim_form.specs.declared.tree.Tree.{Tree}
use Rattle.pim_form.specs.declared.tree.Tree.TheVariants.{Shared, Source as SourceTree}
use Rattle.pim_router.specs.State.{RouterState}
use Rattle.pim_audit.specs.Audited.{AuditState, sides_of, with_asked}
use Rattle.pim_audit.specs.Dues.{Side, due_of, is_one}
use Rattle.pim_audit.specs.Gathering.{is_due_between}
use Rattle.pim_audit.specs.Holding.{HoldsOutside, RouterStays}
use Rattle.pim_audit.specs.Local.{local_port}
use Rattle.pim_audit.specs.Sides.{SidesState, has_star, side_of, asked_side, wanted_side}
use Rattle.pim_audit.specs.Touched.{TouchedMachines, is_touched, Grows, SameStates, OthersStay}
use Rattle.pim_audit.proofs.OneMachine.{all_touched, untouched_before, untouched_star}
use Rattle.pim_audit.proofs.Staying.{wants_shared, wants_source, stars_same}

-- What is due of the machine depends on these states: of (S,G,rpt) on those of (*,G), too.
abbrev Stays : List ℕ → What (List ℕ) → Downstream → Downstream → Type 0
Stays group Star before after = SameStates group Star before after
Stays group (Source source) before after = SameStates group (Source source) before after
Stays group (Rpt source) before after = SameStates group Star before after × SameStates group (Rpt source) before after

-- Two sides say the same of a machine.
abbrev SaysTheSame : List ℕ → What (List ℕ) → Side → Side → Type 0
SaysTheSame group Star before after = after.star group ≡ before.star group
SaysTheSame group (Source source) before after = after.demand source group SourceTree ≡ before.demand source group SourceTree
SaysTheSame group (Rpt source) before after =
    (after.star group ≡ before.star group) × (after.demand source group Shared ≡ before.demand source group Shared)

same_due : (group : List ℕ) (asked asked' wanted wanted' : Side) (what : What (List ℕ)) → SaysTheSame group what asked asked'
    → SaysTheSame group what wanted wanted' → due_of asked' wanted' group what ≡ due_of asked wanted group what
same_due group asked asked' wanted wanted' Star of_asked of_wanted = rw (of_asked, of_wanted) refl
same_due group asked asked' wanted wanted' (Source source) of_asked of_wanted = rw (of_asked, of_wanted) refl
same_due group asked asked' wanted wanted' (Rpt source) of_asked of_wanted =
    rw (of_asked.0, of_wanted.0, of_asked.1, of_wanted.1) refl

of_machines : (group : List ℕ) (what : What (List ℕ)) (before after : Downstream) → Stays group what before after
    → SaysTheSame group what (side_of before) (side_of after)
of_machines group Star before after stays = stars_same group before after stays
of_machines group (Source source) before after stays = wants_source group before after source stays
of_machines group (Rpt source) before after stays =
    (stars_same group before after stays.0, wants_shared group before after source stays.0 stays.1)

module _ (family : AddressFamily) (group : List ℕ) (before after : SidesState) (routes : after.routes ≡ before.routes)
    (upstream : after.upstream ≡ before.upstream) (local : after.local ≡ before.local) where
  wanted_demand : (source : List ℕ) (tree : Tree) → wants after.wanted source group tree ≡ wants before.wanted source group tree
      → (wanted_side family after).demand source group tree ≡ (wanted_side family before).demand source group tree
  wanted_demand source tree same =
      ap₂ (λ a b. a && b)
      (ap₂ (λ a b. a || b) same (ap (λ l. wants (local_port l) source group tree) local))
      (λ i. is_neighbour (upstream i) (rpf_neighbour (rp_of family (routes i)) (via_of family (routes i)) source group tree))

  wanted_star : SameStates group Star before.wanted after.wanted
      → (wanted_side family after).star group ≡ (wanted_side family before).star group
  wanted_star same =
      ap₂ (λ a b. a && b)
      (ap₂ (λ a b. a || b) (stars_same group before.wanted after.wanted same) (ap (λ l. has_star (local_port l) group) local))
      (λ i. is_neighbour (upstream i) (star_rpf_neighbour (via_of family (routes i)) (rp_of family (routes i) group)))

  wanted_same : (what : What (List ℕ)) → Stays group what before.wanted after.wanted
      → SaysTheSame group what (wanted_side family before) (wanted_side family after)
  wanted_same Star stays = wanted_star stays
  wanted_same (Source source) stays =
      wanted_demand source SourceTree (wants_source group before.wanted after.wanted source stays)
  wanted_same (Rpt source) stays =
      (wanted_star stays.0, wanted_demand source Shared (wants_shared group before.wanted after.wanted source stays.0 stays.1))

  due_same : (joins : Bool) (what : What (List ℕ)) → Stays group what before.asked after.asked → Stays group what before.wanted after.wanted
      → is_due_between family after (record { joins = joins; group = group; what = what })
      ≡ is_due_between family before (record { joins = joins; group = group; what = what })
  due_same joins what of_asked of_wanted =
      ap (λ (due : Option Bool). is_one due joins)
      (same_due group (asked_side before) (asked_side after) (wanted_side family before) (wanted_side family after) what
      (of_machines group what before.asked after.asked of_asked) (wanted_same what of_wanted))

all_stay : (group : List ℕ) (what : What (List ℕ)) (touched : TouchedMachines) (before after : Downstream) → OthersStay touched before after
    → is_touched group what touched ≡ false → Stays group what before after
all_stay group Star touched before after stays apart = stays group Star apart
all_stay group (Source source) touched before after stays apart = stays group (Source source) apart
all_stay group (Rpt source) touched before after stays apart =
    (stays group Star (untouched_star group source touched apart), stays group (Rpt source) apart)

-- the router goes on, and then what was asked changes
pub carried : (family : AddressFamily) (first between last : TouchedMachines) (audit : AuditState) (asked' : Downstream)
    (router router' : RouterState) → HoldsOutside family first audit router → Grows first between → Grows between last
    → RouterStays between audit.upstream router router' → OthersStay last audit.asked asked'
    → HoldsOutside family last (with_asked audit asked') router'
carried family first between last audit asked' router router' holds grows more stays others this apart =
    let apart_between = untouched_before this.group this.what between last more apart in
    let apart_first = untouched_before this.group this.what first between grows apart_between in
    holds this apart_first
    ∙ sym (ap₂ (λ a b. a && b) (stays.known this.group this.what apart_between)
    (due_same family this.group (sides_of audit router) (sides_of (with_asked audit asked') router') stays.routes refl refl
    this.joins this.what
    (all_stay this.group this.what last audit.asked asked' others apart)
    (all_stay this.group this.what between router.machines router'.machines stays.states apart_between)))

-- where all machines are touched, nothing is said
pub nothing_held : (family : AddressFamily) (touched : TouchedMachines) (audit : AuditState) (router : RouterState)
    → touched.all ≡ true → HoldsOutside family touched audit router
nothing_held family touched audit router all this apart =
    absurd (false≢true (sym apart ∙ all_touched this.group this.what touched all))
