use Rattle.pim_report.proofs.Words.{◌≡◌, flat_map, record_line}
use Rattle.pim_report.proofs.Written.{IsLeft}
use Rattle.pim_report.proofs.state_text.write_records.Given as goal

-- the lines of the records that are left are still to be written
abbrev pub invariant-loop-record : goal.invariant-loop-record
invariant-loop-record g l =
    IsLeft (g.W.Drain.contents l.fn.writer) (g.W.Drain.contents l.writer) (flat_map (record_line g.F.Family.family) l.record-iterator)
    (flat_map (record_line g.F.Family.family) l.fn.records)
    × (g.W.Drain.failures l.writer ≡ g.W.Drain.failures l.fn.writer)
