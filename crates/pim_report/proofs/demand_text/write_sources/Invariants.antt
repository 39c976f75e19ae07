use Rattle.pim_report.proofs.Words.{◌≡◌, drop, map, flat_map, source_line}
use Rattle.pim_report.proofs.Written.{IsLeft}
use Rattle.pim_report.proofs.demand_text.write_sources.Given as goal

-- the lines of the sources that are left are still to be written
abbrev pub invariant-loop-source : goal.invariant-loop-source
invariant-loop-source g l =
    let bytes_of = g.F.Family.bytes_of in
    let text = source_line g.F.Family.family l.shows_via l.routes (bytes_of l.group) in
    IsLeft (g.W.Drain.contents l.fn.writer) (g.W.Drain.contents l.writer)
    (flat_map (λ source. text (bytes_of source)) (drop l.source-index l.sources)) (flat_map text (map bytes_of l.sources))
    × (g.W.Drain.failures l.writer ≡ g.W.Drain.failures l.fn.writer)
