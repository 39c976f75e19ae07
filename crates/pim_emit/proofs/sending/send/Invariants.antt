use Rattle.pim_emit.proofs.Words.{◌≡◌, ◌+◌, ◌-◌, ◌≤◌, length, take, Appends}
use Rattle.pim_emit.proofs.sending.send.Given as goal

-- the first so many bytes went out
abbrev pub invariant-loop-taken : goal.invariant-loop-taken
invariant-loop-taken g l = record {
  within : l.taken ≤ length l.bytes;
  counted : l.sent ≡ l.initial.sent + l.taken;
  gone : Appends (g.D.Drain.contents l.initial.out) (g.D.Drain.contents l.out) (take l.taken l.bytes);
  failures : g.D.Drain.failures l.out ≡ g.D.Drain.failures l.initial.out;
}

abbrev pub decreases-loop-taken : goal.decreases-loop-taken
decreases-loop-taken g l = length l.bytes - l.taken
