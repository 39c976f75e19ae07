use Rattle.pim_emit.proofs.Words.{◌∙◌, option_map, arith, length-set, IsAheadOn}
use Rattle.pim_emit.proofs.NextAhead.{each_set}
use Rattle.pim_emit.proofs.Room.{place_fits}
use Rattle.pim_emit.proofs.ahead.look_ahead.Goals as goal

pub offset_bounds-nexts-port : goal.offset_bounds-nexts-port
offset_bounds-nexts-port g c =
    place_fits _ c.loop-port.port _ (omega (arith, c.requires, c.port_count-count.ensures, c.loop-port-test.true)) c.well_formed.1.1.1.0.1

pub loop-port-preserved : goal.loop-port-preserved
loop-port-preserved g c =
    let bytes_of = g.F.Family.bytes_of in
    let port = c.loop-port.port in
    record {
      long = length-set c.loop-port.nexts port c.ahead_on.result ∙ c.loop-port.invariant.long;
      next = each_set c.loop-port.nexts port c.ahead_on.result (IsAheadOn c.args.ports.now (bytes_of c.args.group) (option_map bytes_of c.args.bound))
          (omega (arith, c.requires, c.loop-port.invariant.long, c.port_count-count.ensures, c.loop-port-test.true)) c.loop-port.invariant.next c.ahead_on.ensures;
    }
