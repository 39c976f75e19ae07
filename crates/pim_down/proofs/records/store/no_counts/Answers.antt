use Rattle.pim_down.proofs.Counts.{zeros}
use Rattle.pim_down.proofs.records.store.no_counts.Goals as goal

pub returns : goal.returns
returns g port = zeros 64 port
