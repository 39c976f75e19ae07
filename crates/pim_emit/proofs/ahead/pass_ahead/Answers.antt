use Rattle.std.proofs.Common.{arith}
use Rattle.pim_emit.proofs.NextAhead.{passes_alone}
use Rattle.pim_emit.proofs.Room.{place_fits}
use Rattle.pim_emit.proofs.ahead.pass_ahead.Goals as goal

pub offset_bounds-nexts-least : goal.offset_bounds-nexts-least
offset_bounds-nexts-least g c =
    place_fits _ c.args.least.port _ (omega (arith, c.requires.room, c.requires.places.within)) c.well_formed.1.1.0.1

pub returns-then-least-clause-next : goal.returns-then-least-clause-next
returns-then-least-clause-next g c = λ group bound are least.
    let state = c.args.ports.now in
    let passed = g.F.Family.bytes_of c.args.least.source in
    let port = c.args.least.port in
    let within = c.requires.places.within in
    passes_alone state group bound passed least c.args.nexts.now port c.pass_here.new.next (omega (arith, within, c.requires.room)) are
    (c.requires.places.alone c.if-least.true)
    (c.pass_here.ensures group passed bound (c.requires.places.is_there c.index-nexts-least.result) (are port c.index-nexts-least.result within))
