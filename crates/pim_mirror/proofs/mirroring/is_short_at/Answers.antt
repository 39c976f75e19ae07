use Rattle.pim_mirror.proofs.Words.{◌∙◌, ◌^◌, ℕ, List, length, nat_lt, sym, ap, written_bytes}
use Rattle.pim_mirror.proofs.Heard.{no_bytes_at}
use Rattle.pim_mirror.proofs.mirroring.is_short_at.Goals as goal

pub returns-in-None : goal.returns-in-None
returns-in-None c =
    ap (λ (bytes : List ℕ). nat_lt (length bytes) (2 ^ 32)) (no_bytes_at c.args.messages.now c.args.message (sym (ap written_bytes c.in-None.is) ∙ c.get.ensures))
