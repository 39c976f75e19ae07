use Rattle.pim_down.proofs.Words.{◌≡◌, true, list_any, list_events, is_star_join, rp_of}
use Rattle.pim_down.proofs.hearing.end.has_star_join.Given as goal

-- one of the entries that are left is one exactly where one of all is
abbrev pub invariant-loop-entry : goal.invariant-loop-entry
invariant-loop-entry g l =
    list_any is_star_join (list_events (rp_of g.F.Family.family l.routes) true (g.F.Family.bytes_of l.group) l.entry-iterator)
    ≡ list_any is_star_join (list_events (rp_of g.F.Family.family l.routes) true (g.F.Family.bytes_of l.group) l.fn.joined)
