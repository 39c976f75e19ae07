use Rattle.std.proofs.Common.{◌≡◌, ◌≤◌, ◌-◌, vec_len, vec_capacity}
use Rattle.pim_capture.proofs.record.fit.Given as goal

abbrev pub invariant-loop-buffer : goal.invariant-loop-buffer
invariant-loop-buffer l = (vec_len l.buffer ≤ l.length) × (l.length ≤ vec_capacity l.buffer) × (vec_capacity l.buffer ≡ vec_capacity l.initial.buffer)

abbrev pub decreases-loop-buffer : goal.decreases-loop-buffer
decreases-loop-buffer l = l.length - vec_len l.buffer
