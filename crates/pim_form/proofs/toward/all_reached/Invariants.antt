use Rattle.pim_form.proofs.Words.{◌≡◌, ℕ, List, map, drop, list_all, via_of, is_neighbour}
use Rattle.pim_form.proofs.toward.all_reached.Given as goal

-- all are exactly if all that are left are
abbrev pub invariant-loop-source : goal.invariant-loop-source
invariant-loop-source g l =
    let is_reached = λ (source : List ℕ). is_neighbour (g.F.Family.bytes_of l.upstream) (via_of g.F.Family.family l.routes source) in
    list_all is_reached (map g.F.Family.bytes_of (drop l.source-index l.sources)) ≡ list_all is_reached (map g.F.Family.bytes_of l.sources)
