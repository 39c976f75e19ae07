use Rattle.pim_emit.proofs.Words.{◌≡◌, ◌∙◌, true, List, ℕ, Option, Some, None, sym, ap, false≢true, is_this, its_source}
use Rattle.pim_emit.proofs.Addresses.{same_is}
use Rattle.pim_emit.proofs.NextAhead.{stays_ahead}
use Rattle.pim_emit.proofs.ahead.pass_on.Goals as goal

named : (passed : List ℕ) (next : Option (List ℕ)) → is_this passed next ≡ true → next ≡ Some passed
named passed None this = absurd (false≢true this)
named passed (Some next) this = ap (λ (s : List ℕ). Some s) (same_is next passed this)

pub returns-then-not-comes_next : goal.returns-then-not-comes_next
returns-then-not-comes_next g c = λ group bound was least.
    stays_ahead c.args.ports.now group c.args.port c.requires bound (g.F.Family.bytes_of c.args.passed) least c.args.next.now was (sym c.comes_next.ensures ∙ c.if-not-comes_next.true)

pub returns : goal.returns
returns g c = λ group bound was least.
    let passed = g.F.Family.bytes_of c.args.passed in
    c.pass_here.ensures group passed bound (named passed (its_source c.args.next.now) (sym c.comes_next.ensures ∙ c.if-not-comes_next.false)) was
