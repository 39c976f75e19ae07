use Rattle.pim_jp.proofs.Canonical.{set_without_fault}
use Rattle.pim_jp.proofs.laws.canonical_set_has_no_fault.Goals as goal

pub returns : goal.returns
returns c = set_without_fault
