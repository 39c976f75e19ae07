use Rattle.pim_form.proofs.Words.{◌≡◌, map, drop, list_all, is_joined_at}
use Rattle.pim_form.proofs.settling.all_joined.Given as goal

-- all are exactly if all that are left are
abbrev pub invariant-loop-source : goal.invariant-loop-source
invariant-loop-source g l =
    let test = is_joined_at l.ports.records l.port (g.F.Family.bytes_of l.group) in
    list_all test (map g.F.Family.bytes_of (drop l.source-index l.sources)) ≡ list_all test (map g.F.Family.bytes_of l.sources)
