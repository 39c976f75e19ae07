use Rattle.pim_warnings.proofs.Words.{◌∙◌, ◌+◌, refl, sym, ap, arith, List, PortFiles, begun_from}
use Rattle.pim_warnings.proofs.Named.{same_words}
use Rattle.pim_warnings.proofs.Begun.{as_many, begun_all, begun_more, begun_passed, same_clock}
use Rattle.pim_warnings.proofs.census.begin_census.Goals as goal
use Rattle.pim_warnings.proofs.census.begin_census.Goals.{then-is_in, else-is_in}

pub loop-port-init : goal.loop-port-init
loop-port-init g c = record {
  below = omega arith;
  left = ap (λ (ports : List (PortFiles g.row.F-Addr.Denot)). begun_from g.F.Family.family g.F.Family.bytes_of 0 ports c.args.merge.now.lanes)
      (same_words c.args.side c.args.captures.now.more.items c.args.captures.now.more.items c.deref-ports.result.now c.args.captures.now.ports.items refl c.deref-ports.ensures.value);
  clock = refl;
  each = refl;
}

pub loop-port-preserved : goal.loop-port-preserved
loop-port-preserved g c = elim c.if-is_in.branch [
  | then-is_in w ↦ rw (w.merge-is, w.number-is) (record {
    below = omega (arith, c.loop-port.invariant.below);
    left = begun_more g.F.Family.family g.F.Family.bytes_of c.args.side c.args.captures.now.more.items c.deref-ports.result.now c.loop-port.port-index c.loop-port.number c.port-item.result c.loop-port-test.true c.port-item.is
        c.loop-port.merge.lanes w.begin_port.new.merge.lanes _ (c.loop-port.number + 1) (omega arith) (sym c.is_in.ensures ∙ w.if-is_in.true) w.begin_port.ensures.lanes c.loop-port.invariant.left;
    clock = w.begin_port.ensures.clock ∙ c.loop-port.invariant.clock;
    each = as_many g.F.Family.family g.F.Family.bytes_of c.loop-port.number c.port-item.result c.loop-port.merge.lanes w.begin_port.new.merge.lanes w.begin_port.ensures.lanes ∙ c.loop-port.invariant.each;
  })
  | else-is_in w ↦ rw (w.merge-is, w.number-is) (record {
    below = omega (arith, c.loop-port.invariant.below);
    left = begun_passed g.F.Family.family g.F.Family.bytes_of c.args.side c.args.captures.now.more.items c.deref-ports.result.now c.loop-port.port-index c.loop-port.number c.port-item.result c.loop-port-test.true c.port-item.is
        c.loop-port.merge.lanes _ (sym c.is_in.ensures ∙ w.if-is_in.false) c.loop-port.invariant.left;
    clock = c.loop-port.invariant.clock;
    each = c.loop-port.invariant.each;
  })
]

pub returns-clause-census : goal.returns-clause-census
returns-clause-census g c = same_clock c.args.merge.now c.loop-port.merge _
    (sym (begun_all g.F.Family.family g.F.Family.bytes_of c.args.side c.args.captures.now.more.items c.deref-ports.result.now c.loop-port.number c.loop-port.port-index c.loop-port.merge.lanes (omega (arith, c.loop-port-test.false))) ∙ c.loop-port.invariant.left)
    c.loop-port.invariant.clock
