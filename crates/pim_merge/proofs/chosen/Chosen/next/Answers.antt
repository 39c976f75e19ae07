use Rattle.std.proofs.Common.{Bool, sym, subst, vec_capacity}
use Rattle.pim_merge.specs.Source.{Allocates, GrowsWithin, coming_unless, held_unless, needs_unless, read_coming, read_held, read_needs, chosen_needs, piece_capacity, places}
use Rattle.pim_merge.proofs.Needing.{memory_of, within_same}
use Rattle.pim_merge.proofs.chosen.Chosen.next.Goals as goal

pub returns-then-self-clause-piece : goal.returns-then-self-clause-piece
returns-then-self-clause-piece g c = within_same (piece_capacity c.args.self.now) (chosen_needs g.R.Feed.remaining c.args.self.now)

pub returns-clause-memory : goal.returns-clause-memory
returns-clause-memory g c =
    let self = c.args.self.now in
    memory_of c.read_on-result.result _ _
    (subst (λ (over : Bool). Allocates (vec_capacity c.args.buffer.now) (piece_capacity self) (places self)
    (coming_unless over (read_coming g.R.Feed.remaining self)) (needs_unless over (read_needs g.R.Feed.remaining
    self))
    (held_unless over (read_held g.R.Feed.remaining self)))
    (sym c.if-self.false))
    c.read_on-result.ensures.memory

pub returns-clause-piece : goal.returns-clause-piece
returns-clause-piece g c =
    let self = c.args.self.now in
    subst (λ (over : Bool). GrowsWithin (piece_capacity self) (piece_capacity c.read_on-result.new.self) (needs_unless over (read_needs g.R.Feed.remaining self))) (sym c.if-self.false)
    c.read_on-result.ensures.piece
