use Rattle.pim_warnings.proofs.Words.{◌∙◌, ◌+◌, refl, sym, ap, subst, arith, List, Appends, AppendsFront, PortFiles, with_more}
use Rattle.pim_warnings.proofs.Words.{port_files, tallies_of, ports_of, known, port_warnings, warnings_from, warnings_text}
use Rattle.pim_warnings.proofs.Named.{same_words}
use Rattle.pim_warnings.proofs.Warned.{IsLeft, left_all, stopped, port_passed, port_stopped, port_warned}
use Rattle.pim_warnings.proofs.warnings.write_router.Goals as goal
use Rattle.pim_warnings.proofs.warnings.write_router.Goals.{then-is_in+in_ok-write_port, else-is_in}

pub returns-in_err-write_port-clause-bytes : goal.returns-in_err-write_port-clause-bytes
returns-in_err-write_port-clause-bytes g c =
    let all = warnings_text g.F.Family.family c.args.routes.now c.args.is_whole (ports_of c.args.side (port_files c.args.captures.now)) c.args.merge.now in
    stopped (g.W.Drain.contents c.args.writer.now) (g.W.Drain.contents c.write_port.new.writer) c.from_residual.result all c.from_residual.ensures.0
    (port_stopped g.F.Family.family c.args.routes.now c.args.is_whole c.args.side (tallies_of c.args.merge.now.lanes) c.deref-further.result.now c.deref-ports.result.now c.loop-port.at (c.loop-port.at + 1) c.loop-port.port-index c.loop-port.number c.port-item.result
    (omega arith) c.loop-port-test.true c.port-item.is
    (g.W.Drain.contents c.args.writer.now) (g.W.Drain.contents c.loop-port.writer) (g.W.Drain.contents c.write_port.new.writer) all (sym c.is_in.ensures ∙ c.if-is_in.true) c.loop-port.invariant.left
    (subst (λ tally. AppendsFront (g.W.Drain.contents c.loop-port.writer) (g.W.Drain.contents c.write_port.new.writer) (port_warnings g.F.Family.family c.args.routes.now (with_more c.loop-port.at c.deref-further.result.now c.port-item.result) tally))
    (c.known-tally.ensures ∙ ap (known c.args.is_whole) c.tally_of.ensures) c.in_err-write_port.ensures.bytes))

pub loop-port-init : goal.loop-port-init
loop-port-init g c = record {
  below = omega arith;
  few = omega arith;
  left = subst (λ (ports : List (PortFiles g.row.F-Addr.Denot)). IsLeft (g.W.Drain.contents c.args.writer.now) (g.W.Drain.contents c.args.writer.now) (warnings_from g.F.Family.family c.args.routes.now c.args.is_whole 0 ports (tallies_of c.args.merge.now.lanes)) (warnings_text g.F.Family.family c.args.routes.now c.args.is_whole (ports_of c.args.side (port_files c.args.captures.now)) c.args.merge.now))
      (sym (same_words c.args.side c.deref-further.result.now c.args.captures.now.more.items c.deref-ports.result.now c.args.captures.now.ports.items c.deref-further.ensures.value c.deref-ports.ensures.value))
      (left_all (g.W.Drain.contents c.args.writer.now) _);
  count = refl;
}

pub loop-port-preserved : goal.loop-port-preserved
loop-port-preserved g c =
    let all = warnings_text g.F.Family.family c.args.routes.now c.args.is_whole (ports_of c.args.side (port_files c.args.captures.now)) c.args.merge.now in
    elim c.if-is_in.branch [
      | then-is_in+in_ok-write_port w ↦ rw (w.writer-is, w.number-is) (record {
        below = omega (arith, c.loop-port.invariant.below);
        few = omega (arith, c.loop-port.invariant.few);
        left = port_warned g.F.Family.family c.args.routes.now c.args.is_whole c.args.side (tallies_of c.args.merge.now.lanes) c.deref-further.result.now c.deref-ports.result.now c.loop-port.at (c.loop-port.at + 1) c.loop-port.port-index c.loop-port.number
            c.port-item.result (omega arith) c.loop-port-test.true c.port-item.is
            (g.W.Drain.contents c.args.writer.now) (g.W.Drain.contents c.loop-port.writer) (g.W.Drain.contents w.write_port.new.writer) all (c.loop-port.number + 1) (omega arith)
            (sym c.is_in.ensures ∙ w.if-is_in.true) c.loop-port.invariant.left
            (subst (λ tally. Appends (g.W.Drain.contents c.loop-port.writer) (g.W.Drain.contents w.write_port.new.writer) (port_warnings g.F.Family.family c.args.routes.now (with_more c.loop-port.at c.deref-further.result.now c.port-item.result) tally))
            (w.known-tally.ensures ∙ ap (known c.args.is_whole) w.tally_of.ensures) w.in_ok-write_port.ensures.bytes);
        count = w.in_ok-write_port.ensures.count ∙ c.loop-port.invariant.count;
      })
      | else-is_in w ↦ rw (w.writer-is, w.number-is) (record {
        below = omega (arith, c.loop-port.invariant.below);
        few = omega (arith, c.loop-port.invariant.few);
        left = port_passed g.F.Family.family c.args.routes.now c.args.is_whole c.args.side (tallies_of c.args.merge.now.lanes) c.deref-further.result.now c.deref-ports.result.now c.loop-port.at (c.loop-port.at + 1) c.loop-port.port-index c.loop-port.number
            c.port-item.result (omega arith) c.loop-port-test.true c.port-item.is
            (g.W.Drain.contents c.args.writer.now) (g.W.Drain.contents c.loop-port.writer) all (sym c.is_in.ensures ∙ w.if-is_in.false) c.loop-port.invariant.left;
        count = c.loop-port.invariant.count;
      })
    ]
