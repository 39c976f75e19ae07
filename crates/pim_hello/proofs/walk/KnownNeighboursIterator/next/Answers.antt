use Rattle.std.proofs.Common.{List, ℕ, ◌∷◌, map, ap, sym, ◌∙◌}
use Rattle.pim_hello.proofs.Words.{Neighbour, entry_seen}
use Rattle.pim_hello.proofs.walk.KnownNeighboursIterator.next.Goals as goal

pub returns-clause-steps : goal.returns-clause-steps
returns-clause-steps g c =
    let seen = entry_seen g.F.Family.bytes_of c.self.inside.moment in
    rw (← c.self.view_is) (ap (map seen) c.in_ok-address.ensures.steps
    ∙ ap (λ (first : List ℕ × Neighbour). first ∷ map seen c.next.new.self) (sym (c.neighbour_at.ensures g.F.Family.bytes_of)))
