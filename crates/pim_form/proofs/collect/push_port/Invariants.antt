use Rattle.pim_form.specs.Collect.{collected, of_port}
use Rattle.pim_form.proofs.Collecting.{IsCollecting}
use Rattle.pim_form.proofs.collect.push_port.Given as goal

abbrev pub invariant-loop-record : goal.invariant-loop-record
invariant-loop-record g l =
    IsCollecting g.F.Family.bytes_of l.row.items l.places.items l.group l.record-iterator (collected (of_port l.port l.ports))
