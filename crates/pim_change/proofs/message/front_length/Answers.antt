use Rattle.pim_change.proofs.Words.{◌≡◌, ◌∙◌, false, length, get_or, refl, sym, ap, arith, same_address, Unit}
use Rattle.pim_change.proofs.Addresses.{differ}
use Rattle.pim_change.proofs.Grouping.{leaves_at, leaves_none, all_of_group, one_set}
use Rattle.pim_change.proofs.message.front_length.Goals as goal

pub returns-then-ne-clause-cut : goal.returns-then-ne-clause-cut
returns-then-ne-clause-cut g c = λ action.
    let bytes_of = g.F.Family.bytes_of in
    let unit = c.index-units-index.result in
    let apart : same_address (bytes_of c.args.group)
    (bytes_of (get_or c.args.units.now c.loop-index.index unit).group) ≡ false =
    ap (λ (u : Unit _). same_address (bytes_of c.args.group) (bytes_of u.group)) (sym c.index-units-index.is)
    ∙ differ (g.F.Addr.PartialEq.eq c.args.group unit.group) (bytes_of c.args.group) (bytes_of unit.group)
    (g.met.F.Family.equality_of_bytes c.args.group unit.group) (sym c.ne.ensures ∙ c.if-ne.true) in
    one_set bytes_of (bytes_of c.args.group) action c.args.units.now c.loop-index.index
    (omega (arith, c.loop-index-test.true)) c.loop-index.invariant
    (leaves_at bytes_of (bytes_of c.args.group) c.args.units.now c.loop-index.index unit
    c.loop-index-test.true apart)

pub returns-clause-cut : goal.returns-clause-cut
returns-clause-cut g c = λ action.
    let bytes_of = g.F.Family.bytes_of in
    one_set bytes_of (bytes_of c.args.group) action c.args.units.now (length c.args.units.now)
    (omega arith)
    (all_of_group bytes_of (bytes_of c.args.group) c.args.units.now c.loop-index.index c.loop-index-test.false
    c.loop-index.auto.index-end c.loop-index.invariant)
    (leaves_none bytes_of (bytes_of c.args.group) c.args.units.now (length c.args.units.now) refl)
