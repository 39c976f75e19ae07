use Rattle.std.proofs.Common.{◌≡◌, ◌≤◌, ◌-◌, vec_len, vec_capacity}
use Rattle.pim_container.proofs.piece.fit.Given as goal

abbrev pub invariant-loop-buffer : goal.invariant-loop-buffer
invariant-loop-buffer l = (vec_len l.buffer ≤ l.size) × (l.size ≤ vec_capacity l.buffer) × (vec_capacity l.buffer ≡ vec_capacity l.initial.buffer)

abbrev pub decreases-loop-buffer : goal.decreases-loop-buffer
decreases-loop-buffer l = l.size - vec_len l.buffer
