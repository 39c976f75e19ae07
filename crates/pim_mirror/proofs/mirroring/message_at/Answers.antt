use Rattle.pim_mirror.proofs.Words.{◌∙◌, sym, ap, written_bytes}
use Rattle.pim_mirror.proofs.Heard.{no_bytes_at}
use Rattle.pim_mirror.proofs.mirroring.message_at.Goals as goal

pub returns-in-None-clause-bytes : goal.returns-in-None-clause-bytes
returns-in-None-clause-bytes c = no_bytes_at c.args.messages.now c.args.message (sym (ap written_bytes c.in-None.is) ∙ c.get.ensures)
