use Rattle.pim_report.proofs.Words.{◌≡◌, drop, flat_map, message_line}
use Rattle.pim_report.proofs.Written.{IsLeft}
use Rattle.pim_report.proofs.message_text.write_each.Given as goal

-- the lines of the messages that are left are still to be written
abbrev pub invariant-loop-index : goal.invariant-loop-index
invariant-loop-index g l =
    IsLeft (g.W.Drain.contents l.fn.writer) (g.W.Drain.contents l.writer) (flat_map message_line (drop l.index l.messages)) (flat_map message_line l.messages)
    × (g.W.Drain.failures l.writer ≡ g.W.Drain.failures l.fn.writer)
