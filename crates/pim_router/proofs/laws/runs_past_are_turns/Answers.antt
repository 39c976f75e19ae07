use Rattle.pim_router.proofs.Happenings.{runs_past_turns}
use Rattle.pim_router.proofs.laws.runs_past_are_turns.Goals as goal

pub returns : goal.returns
returns c = runs_past_turns
