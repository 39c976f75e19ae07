use Rattle.std.proofs.Common.{◌+◌, Option, option_map, ap, sym, subst}
use Rattle.pim_emit.specs.declared.ahead.LeastAhead.{LeastAhead}
use Rattle.pim_emit.specs.Ahead.{its_source, LeastSeen, least_seen, IsLeastBelow, AreLeastBelow}
use Rattle.pim_emit.proofs.LeastAhead.{lesser_is_least, same_stays, greater_stays}
use Rattle.pim_emit.proofs.ahead.with_port.Goals as goal

pub returns-in-Less : goal.returns-in-Less
returns-in-Less g c = λ nexts here were.
    let bytes_of = g.F.Family.bytes_of in
    lesser_is_least nexts c.args.port (its_source c.args.next.now) (λ other. ap its_source (here other)) (bytes_of c.in-Some.source) (least_seen bytes_of c.in-Some-least.before)
    (sym c.in-Some.ensures) (sym c.in-Less.ensures) (subst (λ (l : Option (LeastAhead g.row.F-Addr.Denot)). AreLeastBelow c.args.port nexts (option_map (least_seen bytes_of) l)) c.in-Some-least.is were)

pub returns-in-Equal : goal.returns-in-Equal
returns-in-Equal g c = λ nexts here were.
    let bytes_of = g.F.Family.bytes_of in
    subst (λ (l : LeastSeen). IsLeastBelow (c.args.port + 1) nexts l) (sym (c.beside_another.ensures bytes_of))
    (same_stays nexts c.args.port (its_source c.args.next.now) (λ other. ap its_source (here other)) (bytes_of c.in-Some.source) (least_seen bytes_of c.in-Some-least.before)
    (sym c.in-Some.ensures) (sym c.in-Equal.ensures) (subst (λ (l : Option (LeastAhead g.row.F-Addr.Denot)). AreLeastBelow c.args.port nexts (option_map (least_seen bytes_of) l)) c.in-Some-least.is were))

pub returns-in-Greater : goal.returns-in-Greater
returns-in-Greater g c = λ nexts here were.
    let bytes_of = g.F.Family.bytes_of in
    greater_stays nexts c.args.port (its_source c.args.next.now) (λ other. ap its_source (here other)) (bytes_of c.in-Some.source) (least_seen bytes_of c.in-Some-least.before)
    (sym c.in-Some.ensures) (sym c.in-Greater.ensures) (subst (λ (l : Option (LeastAhead g.row.F-Addr.Denot)). AreLeastBelow c.args.port nexts (option_map (least_seen bytes_of) l)) c.in-Some-least.is were)
