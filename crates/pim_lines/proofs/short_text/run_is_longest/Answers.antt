use Rattle.pim_lines.proofs.ShortTexts.{run_first}
use Rattle.pim_lines.proofs.short_text.run_is_longest.Goals as goal

pub returns : goal.returns
returns c = run_first
