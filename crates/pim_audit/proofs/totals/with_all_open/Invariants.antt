use Rattle.std.proofs.Common.{◌≡◌, map}
use Rattle.pim_audit.specs.Seen.{dues_seen}
use Rattle.pim_audit.specs.Totals.{with_all_open}
use Rattle.pim_audit.proofs.totals.with_all_open.Given as goal

-- what was counted and what is left to count are all
abbrev pub invariant-loop-held : goal.invariant-loop-held
invariant-loop-held g l =
    let bytes_of = g.F.Family.bytes_of in
    with_all_open (map bytes_of l.groups) l.moment (dues_seen bytes_of l.held-iterator) l.counted ≡ with_all_open (map bytes_of l.groups) l.moment l.dues l.fn.totals
