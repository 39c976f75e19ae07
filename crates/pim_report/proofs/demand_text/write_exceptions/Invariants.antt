use Rattle.pim_report.proofs.Words.{◌≡◌, drop, map, option_map, flat_map, exception_line}
use Rattle.pim_report.proofs.Written.{IsLeft}
use Rattle.pim_report.proofs.demand_text.write_exceptions.Given as goal

-- the lines of the exceptions that are left are still to be written
abbrev pub invariant-loop-source : goal.invariant-loop-source
invariant-loop-source g l =
    let bytes_of = g.F.Family.bytes_of in
    let text = exception_line g.F.Family.family l.shows_via (bytes_of l.group) (option_map bytes_of l.demanded) in
    IsLeft (g.W.Drain.contents l.fn.writer) (g.W.Drain.contents l.writer)
    (flat_map (λ source. text (bytes_of source)) (drop l.source-index l.exceptions)) (flat_map text (map bytes_of l.exceptions))
    × (g.W.Drain.failures l.writer ≡ g.W.Drain.failures l.fn.writer)
