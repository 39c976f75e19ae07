use Rattle.pim_form.proofs.Words.{◌≡◌, ◌∙◌, ℕ, List, ◌∷◌, length, sym, ap, subst, AddressFamily, GroupPlace, GroupForm}
use Rattle.pim_form.proofs.Words.{IsNormalGroup, IsWithin, AreKept, place_seen, form_seen}
use Rattle.pim_form.proofs.groups.GroupsIterator.next.Goals as goal

cut : {A : Type 0} (bytes_of : A → List ℕ) (family : AddressFamily) (row : List A) (place : GroupPlace A) (others all : List (GroupPlace A)) → all ≡ place ∷ others
    → AreKept bytes_of family row all → (IsWithin (length row) place × IsNormalGroup family (place_seen bytes_of row place)) × AreKept bytes_of family row others
cut bytes_of family row place others all is kept =
    let here : AreKept bytes_of family row (place ∷ others) = subst (AreKept bytes_of family row) is kept in
    ((here.0.0, here.1.0), (here.0.1, here.1.1))

pub group_at-group-requires-clause-within : goal.group_at-group-requires-clause-within
group_at-group-requires-clause-within g c =
    (cut g.F.Family.bytes_of g.F.Family.family c.self.inside.row.now c.in_ok-first.first.now c.in_ok-first.others.now c.self.inside.places.now c.in_ok-first.ensures.cases.0 c.self.invariant).0.0

pub group_at-group-requires-clause-normal : goal.group_at-group-requires-clause-normal
group_at-group-requires-clause-normal g c =
    (cut g.F.Family.bytes_of g.F.Family.family c.self.inside.row.now c.in_ok-first.first.now c.in_ok-first.others.now c.self.inside.places.now c.in_ok-first.ensures.cases.0 c.self.invariant).0.1

pub invariant_of-self : goal.invariant_of-self
invariant_of-self g c =
    (cut g.F.Family.bytes_of g.F.Family.family c.self.inside.row.now c.in_ok-first.first.now c.in_ok-first.others.now c.self.inside.places.now c.in_ok-first.ensures.cases.0 c.self.invariant).1

pub returns-clause-steps : goal.returns-clause-steps
returns-clause-steps g c =
    let bytes_of = g.F.Family.bytes_of in
    sym c.self.view_is ∙ ap (form_seen bytes_of c.self.inside.row.now) c.in_ok-first.ensures.cases.0
    ∙ ap (λ (this : GroupForm). this ∷ form_seen bytes_of c.self.inside.row.now c.in_ok-first.others.now) (sym c.group_at-group.ensures)
