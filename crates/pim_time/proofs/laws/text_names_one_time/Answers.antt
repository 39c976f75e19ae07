use Rattle.pim_time.proofs.OneTimes.{one_time}
use Rattle.pim_time.proofs.laws.text_names_one_time.Goals as goal

pub returns : goal.returns
returns c = one_time
