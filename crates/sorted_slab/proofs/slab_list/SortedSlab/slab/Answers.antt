use Rattle.sorted_slab.proofs.Words.{◌≡◌, ◌<◌, ℕ, Some, get_or, length, sym, subst, get, items, Listed, numbers}
use Rattle.sorted_slab.proofs.Found.{found_at, length_found}
use Rattle.sorted_slab.proofs.slab_list.SortedSlab.slab.Goals as goal

pub returns-clause-count : goal.returns-clause-count
returns-clause-count g c =
    let s = c.self.inside in
    subst (λ (m : Listed g.row.T.Denot). length (numbers m) ≡ length m.items) c.self.view_is (sym (length_found s.slab (items s.index) c.self.invariant.held))

pub returns-clause-item : goal.returns-clause-item
returns-clause-item g c =
    let s = c.self.inside in
    subst (λ (m : Listed g.row.T.Denot). (i d : ℕ) (e : g.row.T.Denot) → i < length (numbers m) → get s.slab (get_or (numbers m) i d) ≡ Some (get_or m.items i e)) c.self.view_is
    (λ i d e w. found_at s.slab (items s.index) i d e c.self.invariant.held w)
