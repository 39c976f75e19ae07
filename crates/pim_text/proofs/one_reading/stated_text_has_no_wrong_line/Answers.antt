use Rattle.pim_text.proofs.OneReading.{no_wrong_line}
use Rattle.pim_text.proofs.one_reading.stated_text_has_no_wrong_line.Goals as goal

pub returns : goal.returns
returns c = no_wrong_line
