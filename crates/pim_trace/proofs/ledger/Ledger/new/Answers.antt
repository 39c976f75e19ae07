use Rattle.std.specs.Prelude.{replicate}
use Rattle.pim_trace.proofs.Words.{◌∙◌, None, ap, none_skipped}
use Rattle.pim_trace.proofs.Maps.{no_hellos, no_causes}
use Rattle.pim_trace.proofs.ledger.Ledger.new.Goals as goal

pub returns : goal.returns
returns g c = λ i. record {
  frames = (c.in_ok-for_each_port.ensures ∙ ap (replicate c.args.ports) c.no_place.ensures) i;
  begin = None;
  own = c.in_ok-for_each_port-2.ensures i;
  hellos = no_hellos g.F.Family.bytes_of c.new.result.entries c.new.ensures.empty i;
  causes = no_causes g.F.Family.bytes_of c.new-2.result.items c.new-2.ensures i;
  skipped = none_skipped;
}
