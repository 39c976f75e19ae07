use Rattle.pim_time.proofs.Texts.{date_names}
use Rattle.pim_time.proofs.laws.date_names_its_time.Goals as goal

pub returns : goal.returns
returns c = date_names
