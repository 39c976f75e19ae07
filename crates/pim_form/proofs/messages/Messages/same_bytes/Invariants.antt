use Rattle.std.proofs.Common.{◌≡◌, ℕ, ◌<◌, slice_get}
use Rattle.pim_form.proofs.messages.Messages.same_bytes.Given as goal

-- the messages before this number are the same
abbrev pub invariant-loop-index : goal.invariant-loop-index
invariant-loop-index l = (k : ℕ) → k < l.index → slice_get l.self k ≡ slice_get l.other k
