use Rattle.std.proofs.Common.{◌<◌, ◌^◌, ℕ, [], length, slice_index_or}
use Rattle.pim_mirror.proofs.mirroring.are_short.Given as goal

-- each message before this one is short
abbrev pub invariant-loop-message : goal.invariant-loop-message
invariant-loop-message l = (i : ℕ) → i < l.message → length (slice_index_or l.messages i []) < 2 ^ 32
