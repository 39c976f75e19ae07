use Rattle.pim_event_lines.proofs.Cited.{◌≡◌, ◌+◌, ◌*◌, ◌≤◌, length, joined_in}
use Rattle.pim_event_lines.proofs.counts.joined_in.Given as goal

-- what is counted and what is left make the whole, and there is room for what is left
abbrev pub invariant-loop-set : goal.invariant-loop-set
invariant-loop-set g l =
    (l.count + joined_in l.set-iterator ≡ joined_in l.message.sets) × (l.count + 65535 * length l.set-iterator ≤ 16711425)
