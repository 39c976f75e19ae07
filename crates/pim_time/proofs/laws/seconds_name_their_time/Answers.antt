use Rattle.pim_time.proofs.Texts.{seconds_name}
use Rattle.pim_time.proofs.laws.seconds_name_their_time.Goals as goal

pub returns : goal.returns
returns c = seconds_name
