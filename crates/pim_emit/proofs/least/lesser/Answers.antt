use Rattle.pim_emit.proofs.Words.{◌∙◌, ap, sym, is_lt}
use Rattle.pim_emit.proofs.LeastOfTwo.{other_is_least, one_is_least}
use Rattle.pim_emit.proofs.least.lesser.Goals as goal

pub returns-then-is_lt : goal.returns-then-is_lt
returns-then-is_lt g c =
    let a = g.F.Family.bytes_of c.in-Some-Some.a in
    let b = g.F.Family.bytes_of c.in-Some-Some.b in
    rw (c.in-Some-Some.is-0, c.in-Some-Some.is-1) (λ test this first second. other_is_least test this a b first second
    (sym (ap is_lt c.compare_addresses.ensures) ∙ sym c.is_lt.ensures ∙ c.if-is_lt.true))

pub returns-else-is_lt : goal.returns-else-is_lt
returns-else-is_lt g c =
    let a = g.F.Family.bytes_of c.in-Some-Some.a in
    let b = g.F.Family.bytes_of c.in-Some-Some.b in
    rw (c.in-Some-Some.is-0, c.in-Some-Some.is-1) (λ test this first second. one_is_least test this a b first second
    (sym (ap is_lt c.compare_addresses.ensures) ∙ sym c.is_lt.ensures ∙ c.if-is_lt.false))
