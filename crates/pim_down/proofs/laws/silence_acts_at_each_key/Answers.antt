use Rattle.pim_down.proofs.Silence.{silence}
use Rattle.pim_down.proofs.laws.silence_acts_at_each_key.Goals as goal

pub returns : goal.returns
returns c = silence
