use Rattle.pim_form.proofs.Words.{◌≡◌, ◌∙◌, sym, ap, subst, ℕ, ◌<◌, List, length, get_or, map, false, GroupForm}
use Rattle.pim_form.proofs.Words.{IsNormalGroup, is_listed, group_wants, form_wants, place_group, place_seen}
use Rattle.pim_form.proofs.Kept.{ascending, normal_at, wants_found, wants_none}
use Rattle.pim_form.proofs.form.NormalForm.wants.Goals as goal

pub find_group-requires : goal.find_group-requires
find_group-requires g c =
    rw c.deref.ensures.value (ascending g.F.Family.bytes_of c.self.inside.row.items g.F.Family.family c.self.inside.places.items c.self.invariant)

pub group_at-requires-clause-normal : goal.group_at-requires-clause-normal
group_at-requires-clause-normal g c =
    let bytes_of = g.F.Family.bytes_of in
    let below : c.in-Some.index < length c.self.inside.places.items = subst (λ places. c.in-Some.index < length places) c.deref.ensures.value c.in-Some.ensures.0 in
    let normal = normal_at bytes_of c.self.inside.row.items g.F.Family.family c.self.inside.places.items c.self.invariant c.in-Some.index c.index.result.now below in
    let here = subst (λ place. IsNormalGroup g.F.Family.family (place_seen bytes_of c.self.inside.row.items place)) (sym c.index.ensures) normal in
    subst (λ row. IsNormalGroup g.F.Family.family (place_seen bytes_of row c.index.result.now)) (sym c.deref-in-Some.ensures.value) here

pub returns-in-Some : goal.returns-in-Some
returns-in-Some g c =
    let bytes_of = g.F.Family.bytes_of in
    let row = c.self.inside.row.items in
    let source : List ℕ = bytes_of c.args.source in
    let group : List ℕ = bytes_of c.args.group in
    let below : c.in-Some.index < length c.self.inside.places.items = subst (λ places. c.in-Some.index < length places) c.deref.ensures.value c.in-Some.ensures.0 in
    let is : bytes_of (get_or c.self.inside.places.items c.in-Some.index c.index.result.now).group ≡ group =
    subst (λ places. bytes_of (get_or places c.in-Some.index c.index.result.now).group ≡ group) c.deref.ensures.value (c.in-Some.ensures.1 c.index.result.now) in
    let at = wants_found bytes_of row g.F.Family.family c.self.inside.places.items c.self.invariant c.in-Some.index c.index.result.now source group c.args.tree below is in
    let seen : c.group_at.result ≡ place_seen bytes_of row (get_or c.self.inside.places.items c.in-Some.index c.index.result.now) =
    c.group_at.ensures ∙ ap (λ row. place_seen bytes_of row c.index.result.now) c.deref-in-Some.ensures.value ∙ ap (λ place. place_seen bytes_of row place) c.index.ensures in
    c.wants.ensures ∙ ap (λ (this : GroupForm). group_wants this source c.args.tree) seen ∙ sym at ∙ ap (λ (form : List GroupForm). form_wants form source group c.args.tree) c.self.view_is

pub returns-in-None : goal.returns-in-None
returns-in-None g c =
    let bytes_of = g.F.Family.bytes_of in
    let source : List ℕ = bytes_of c.args.source in
    let group : List ℕ = bytes_of c.args.group in
    let none : is_listed group (map (place_group bytes_of) c.self.inside.places.items) ≡ false =
    subst (λ places. is_listed group (map (place_group bytes_of) places) ≡ false) c.deref.ensures.value c.in-None.ensures in
    sym (wants_none bytes_of c.self.inside.row.items g.F.Family.family c.self.inside.places.items c.self.invariant source group c.args.tree none)
    ∙ ap (λ (form : List GroupForm). form_wants form source group c.args.tree) c.self.view_is
