use Rattle.pim_time.proofs.Plains.{plain_time}
use Rattle.pim_time.proofs.laws.plain_names_its_time.Goals as goal

pub returns : goal.returns
returns c = plain_time
