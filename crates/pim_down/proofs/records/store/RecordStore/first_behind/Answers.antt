use Rattle.pim_down.proofs.Words.{◌≡◌, ℕ, true, false, sym, subst, IsPartitionedBy, IsPartitionPoint, Listed, at, Held}
use Rattle.pim_down.proofs.Bounds.{never_found, gap_parts}
use Rattle.pim_down.proofs.records.store.RecordStore.first_behind.Goals as goal

pub unreachable-requires : goal.unreachable-requires
unreachable-requires g c =
    let list = c.self.inside.list in
    never_found (λ (held : Held g.row.A.Denot). g.B.Bound.is_before c.args.bound.now held.key) list.items (at list c.in-Ok.field-0) (c.in-Ok.ensures {u = tt}).1

pub returns-clause-parts : goal.returns-clause-parts
returns-clause-parts g c =
    let test = λ (held : Held g.row.A.Denot). g.B.Bound.is_before c.args.bound.now held.key in
    let list = c.self.inside.list in
    let parted : IsPartitionedBy test list.items = subst (λ (l : Listed (Held g.row.A.Denot)). IsPartitionedBy test l.items) (sym c.self.view_is) c.requires in
    let gap = c.in-Err.ensures {u = tt} in
    let parts = gap_parts test list.items (at list c.in-Err.place) gap.1 parted gap.2 in
    subst (λ (l : Listed (Held g.row.A.Denot)). IsPartitionPoint (λ held. test held ≡ true) (λ held. test held ≡ false) l.items (at l c.settled.result)) c.self.view_is
    (subst (λ (i : ℕ). IsPartitionPoint (λ held. test held ≡ true) (λ held. test held ≡ false) list.items i) (sym c.settled.ensures.at) parts)
