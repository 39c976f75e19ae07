use Rattle.std.proofs.lemmas.Bool.{false≢true}
use Rattle.pim_hello.proofs.Index.{first_end_le, not_empty}
use Rattle.pim_hello.proofs.NextEnd.{first_is_least, none_is_least}
use Rattle.pim_hello.proofs.roster.Roster.first_end.Goals as goal

pub returns-in_err-end : goal.returns-in_err-end
returns-in_err-end g c = rw c.from_residual.ensures
    (none_is_least g.A.Ord.cmp g.met.A.Ord.total c.args.self.now.neighbours c.args.self.now.ascending c.args.self.now.ends.keys c.args.self.now.indexed
    (λ e b t. false≢true (c.in_err-end.ensures.variant.1 (not_empty _ _ t))))

pub returns : goal.returns
returns g c =
    let first = c.in_ok-end.field-0.now in
    first_is_least g.A.Ord.cmp g.met.A.Ord.total c.args.self.now.neighbours c.args.self.now.ascending c.args.self.now.ends.keys first.0 first.1 c.args.self.now.indexed c.in_ok-end.ensures.member
    (λ d b t. first_end_le g.A.Ord.cmp first.0 d first.1 b (c.in_ok-end.ensures.least (d, b) t))
