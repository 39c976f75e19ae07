use Rattle.pim_hello.proofs.Words.{arith, sym, ◌∙◌, false≢true}
use Rattle.pim_hello.proofs.Index.{none_ended, first_end_le, ended, fewer, not_empty}
use Rattle.pim_hello.proofs.roster.Roster.remove_ended.Goals as goal

pub returns-in_err-end-clause-none_ended : goal.returns-in_err-end-clause-none_ended
returns-in_err-end-clause-none_ended g c = rw c.from_residual.ensures
    (none_ended g.A.Ord.cmp c.args.moment _ _ c.args.self.now.indexed (λ e b t. absurd (false≢true (c.in_err-end.ensures.variant.1 (not_empty _ _ t)))))

pub returns-then-end-moment-clause-none_ended : goal.returns-then-end-moment-clause-none_ended
returns-then-end-moment-clause-none_ended g c = none_ended g.A.Ord.cmp c.args.moment _ _ c.args.self.now.indexed
    (λ e b t. let l = first_end_le g.A.Ord.cmp c.in_ok-end.field-0.now.0 e c.in_ok-end.field-0.now.1 b (c.in_ok-end.ensures.least (e, b) t) in omega arith)

pub returns-clause-ended : goal.returns-clause-ended
returns-clause-ended g c = ended c.args.moment c.in_ok-end.field-0.now.0 _ (sym (c.args.self.now.indexed c.in_ok-end.field-0.now.0 c.in_ok-end.field-0.now.1) ∙ c.in_ok-end.ensures.member) (omega arith)

pub returns-clause-shorter : goal.returns-clause-shorter
returns-clause-shorter g c =
    fewer c.in_ok-end.field-0.now.0 _ _ _ (sym (c.args.self.now.indexed c.in_ok-end.field-0.now.0 c.in_ok-end.field-0.now.1) ∙ c.in_ok-end.ensures.member) c.remove.ensures.count
