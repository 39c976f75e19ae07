use Rattle.pim_form.proofs.Words.{◌≡◌, rp_of, via_of, is_toward}
use Rattle.pim_form.proofs.toward.is_toward.Given as goal

-- the form is exactly if the groups that are left are
abbrev pub invariant-loop-this : goal.invariant-loop-this
invariant-loop-this g l =
    let toward = is_toward (rp_of g.F.Family.family l.routes) (via_of g.F.Family.family l.routes) (g.F.Family.bytes_of l.upstream) in
    toward l.this-iterator ≡ toward l.normal
