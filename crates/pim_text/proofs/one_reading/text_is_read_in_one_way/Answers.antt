use Rattle.pim_text.proofs.OneReading.{one_read}
use Rattle.pim_text.proofs.one_reading.text_is_read_in_one_way.Goals as goal

pub returns : goal.returns
returns c = one_read
