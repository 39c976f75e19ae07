use Rattle.pim_text.proofs.OneReading.{one_wrong_line}
use Rattle.pim_text.proofs.one_reading.text_has_one_wrong_line.Goals as goal

pub returns : goal.returns
returns c = one_wrong_line
