use Rattle.pim_audit_laws.proofs.NoReceivers.{without_local_is_demanded}
use Rattle.pim_audit_laws.proofs.laws.without_local_is_demanded.Goals as goal

pub returns : goal.returns
returns c = without_local_is_demanded
