use Rattle.pim_down.proofs.Late.{late_none}
use Rattle.pim_down.proofs.Kept.{sound_at_first}
use Rattle.pim_down.proofs.ports.Ports.new.Goals as goal

pub invariant_of-result : goal.invariant_of-result
invariant_of-result g c = (sound_at_first g.F.Family.family g.F.Family.bytes_of c.args.ports c.args.limit c.new.result.items c.new.ensures c.requires.ports c.requires.limit, late_none g.F.Family.bytes_of 0 c.new.result.items c.new.ensures)
