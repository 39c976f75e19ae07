use Rattle.pim_down.proofs.Hears.{sound_heard}
use Rattle.pim_down.proofs.laws.hearing_keeps_sound.Goals as goal

pub returns : goal.returns
returns c = sound_heard
