use Rattle.pim_form.proofs.Words.{rp_of, via_of}
use Rattle.pim_form.proofs.KeptLoop.{HasKept}
use Rattle.pim_form.proofs.kept_toward.kept_toward.Given as goal

-- what is left of the groups that came, and of those that come, is what is left of all
abbrev pub invariant-loop-this : goal.invariant-loop-this
invariant-loop-this g l =
    HasKept g.F.Family.bytes_of (rp_of g.F.Family.family l.routes) (via_of g.F.Family.family l.routes)
    (g.F.Family.bytes_of l.upstream) l.row.items l.places.items l.this-iterator l.normal
