use Rattle.pim_down.specs.Seen.{key_seen}
use Rattle.pim_down.proofs.Sought.{found_place}
use Rattle.pim_down.proofs.records.edits.find_place.Goals as goal

pub returns : goal.returns
returns g c = found_place g.F.Family.bytes_of (key_seen g.F.Family.bytes_of c.args.key.now) c.args.records.now c.requires c.find_near.result c.find_near.ensures
