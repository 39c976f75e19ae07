use Rattle.std.proofs.Common.{◌∙◌, arith}
use Rattle.pim_request.proofs.Steps.{sound_after, more_read}
use Rattle.pim_request.proofs.input.Input.fill.Goals as goal

pub invariant_of-self : goal.invariant_of-self
invariant_of-self g c =
    let size = c.read_at-read.ensures.length ∙ c.make_room-self-inside.ensures.length in
    sound_after c.self.inside.buffer.items c.make_room-self-inside.new.buffer.items _ _ _ _ _ _ _ _ c.self.invariant c.make_room-self-inside.ensures.bytes c.read_at-read.ensures.kept
    size (omega arith) (omega (arith, c.make_room-self-inside.ensures.room, c.read_at-read.ensures.length))

pub invariant_of-self-2 : goal.invariant_of-self-2
invariant_of-self-2 g c =
    let size = c.read_at-read.ensures.length ∙ c.make_room-self-inside.ensures.length in
    sound_after c.self.inside.buffer.items c.make_room-self-inside.new.buffer.items _ _ _ _ _ _ _ _ c.self.invariant c.make_room-self-inside.ensures.bytes c.read_at-read.ensures.kept
    size (omega arith) (omega (arith, c.in-Ok-read.ensures.bound))

pub returns-clause-more : goal.returns-clause-more
returns-clause-more g c =
    let size = c.read_at-read.ensures.length ∙ c.make_room-self-inside.ensures.length in
    rw (← c.self.view_is) (more_read c.self.inside.buffer.items c.make_room-self-inside.new.buffer.items _ _ _ _ _ _ _ _ _ _ c.make_room-self-inside.ensures.bytes c.read_at-read.ensures.kept
    (size ∙ c.self.invariant.size) (omega (arith, c.in-Ok-read.ensures.bound)) (omega (arith, c.in-Ok-read.ensures.bound)) c.in-Ok-read.ensures.bytes
    (λ none. c.in-Ok-read.ensures.at_end none (omega (arith, c.if-self-eq0.false))))
