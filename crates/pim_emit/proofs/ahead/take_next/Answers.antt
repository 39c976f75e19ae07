use Rattle.std.proofs.Common.{option_map, arith}
use Rattle.pim_emit.proofs.ahead.take_next.Goals as goal

pub returns-in_default-clause-least : goal.returns-in_default-clause-least
returns-in_default-clause-least g c =
    let bytes_of = g.F.Family.bytes_of in
    c.in_default.ensures.source (bytes_of c.args.group) (option_map bytes_of c.args.bound)
    (c.requires (omega (arith, c.port_count.ensures, c.if-nexts-port_count.false)))

pub returns-clause-least : goal.returns-clause-least
returns-clause-least g c =
    let bytes_of = g.F.Family.bytes_of in
    c.in-Some.ensures.source (bytes_of c.args.group) (option_map bytes_of c.args.bound)
    (c.requires (omega (arith, c.port_count.ensures, c.if-nexts-port_count.false)))

pub returns-clause-next : goal.returns-clause-next
returns-clause-next g c =
    let group = g.F.Family.bytes_of c.args.group in
    let bound = option_map g.F.Family.bytes_of c.args.bound in
    λ places. c.pass_ahead.ensures.next group bound (c.requires places) (c.in-Some.ensures.source group bound (c.requires places))
