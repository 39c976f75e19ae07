use Rattle.pim_merge.proofs.Alike.{content_alike, time_alike}
use Rattle.pim_merge.proofs.laws.records_hold_alike.Goals as goal

pub returns : goal.returns
returns c family reported = (content_alike family reported, time_alike reported)
