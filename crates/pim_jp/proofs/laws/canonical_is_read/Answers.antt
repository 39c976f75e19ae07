use Rattle.pim_jp.proofs.Canonical.{written_value, written_without_fault}
use Rattle.pim_jp.proofs.laws.canonical_is_read.Goals as goal

pub returns : goal.returns
returns c = record { no_fault = written_without_fault; message = written_value }
