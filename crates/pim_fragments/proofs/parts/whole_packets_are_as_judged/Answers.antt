use Rattle.pim_fragments.proofs.Judged.{skipped}
use Rattle.pim_fragments.proofs.parts.whole_packets_are_as_judged.Goals as goal

pub returns-clause-skipped : goal.returns-clause-skipped
returns-clause-skipped c = λ reason judged may. skipped c.args.family c.args.packet.now reason judged may
