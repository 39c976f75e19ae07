use Rattle.pim_down.proofs.Kept.{sound_runs}
use Rattle.pim_down.proofs.laws.run_keeps_sound.Goals as goal

pub returns : goal.returns
returns c = sound_runs
