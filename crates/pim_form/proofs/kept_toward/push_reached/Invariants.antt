use Rattle.pim_form.proofs.Words.{◌≡◌, ◌++◌, drop, filter, rp_of, via_of, is_reached}
use Rattle.pim_form.proofs.kept_toward.push_reached.Given as goal

-- what was appended and what is left to be appended is what all of them give
abbrev pub invariant-loop-source : goal.invariant-loop-source
invariant-loop-source g l =
    let bytes_of = g.F.Family.bytes_of in
    let keeps = λ (source : g.row.F-Addr.Denot). is_reached (rp_of g.F.Family.family l.routes) (via_of g.F.Family.family l.routes) (bytes_of l.upstream) (bytes_of source) in
    l.row.items ++ filter keeps (drop l.source-index l.sources) ≡ l.initial.row.items ++ filter keeps l.sources
