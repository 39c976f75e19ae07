use Rattle.pim_answers.proofs.Words.{◌≡◌, flat_map, record_line}
use Rattle.pim_answers.proofs.Written.{IsLeft}
use Rattle.pim_answers.proofs.reports.write_records.Given as goal

-- the lines of the records that are left are still to be written
abbrev pub invariant-loop-record : goal.invariant-loop-record
invariant-loop-record g l =
    IsLeft (g.W.Drain.contents l.fn.answers) (g.W.Drain.contents l.answers) (flat_map (record_line g.F.Family.family) l.record-iterator)
    (flat_map (record_line g.F.Family.family) l.fn.records)
    × (g.W.Drain.failures l.answers ≡ g.W.Drain.failures l.fn.answers)
