use Rattle.std.proofs.Common.{◌≡◌, length}
use Rattle.library_examples.proofs.packets_to_messages.hear.Given as goal

-- the only port stays
abbrev pub invariant-loop-moment : goal.invariant-loop-moment
invariant-loop-moment l = length l.router.ports ≡ 1
