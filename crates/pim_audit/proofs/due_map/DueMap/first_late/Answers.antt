use Rattle.std.proofs.Common.{sym, ◌∙◌, arith}
use Rattle.std.proofs.lemmas.Bool.{false≢true}
use Rattle.pim_audit.specs.Keyed.{key_cmp}
use Rattle.pim_audit.proofs.KeyOrder.{key_total}
use Rattle.pim_audit.proofs.Waits.{none_is_late, first_before, not_empty, waits_too_long}
use Rattle.pim_audit.proofs.due_map.DueMap.first_late.Goals as goal

pub returns-in_err-since-clause-none : goal.returns-in_err-since-clause-none
returns-in_err-since-clause-none g c = rw c.from_residual.ensures
    (none_is_late (key_cmp g.A.Ord.cmp) (key_total g.met.A.Ord.total) c.args.self.now.entries c.args.self.now.ascending _
    c.args.self.now.waits c.args.moment c.args.grace
    (λ s q t. absurd (false≢true (c.in_err-since.ensures.variant.1 (not_empty _ _ t)))))

pub returns-then-saturating_sub-grace-clause-none : goal.returns-then-saturating_sub-grace-clause-none
returns-then-saturating_sub-grace-clause-none g c =
    none_is_late (key_cmp g.A.Ord.cmp) (key_total g.met.A.Ord.total) c.args.self.now.entries c.args.self.now.ascending _
    c.args.self.now.waits c.args.moment c.args.grace
    (λ s q t. let l = first_before (key_cmp g.A.Ord.cmp) c.in_ok-since.field-0.now.0 s c.in_ok-since.field-0.now.1 q
    (c.in_ok-since.ensures.least (s, q) t) in omega (arith, c.saturating_sub.ensures))

pub returns-clause-late : goal.returns-clause-late
returns-clause-late g c = waits_too_long _ c.in_ok-since.field-0.now.0 c.args.moment c.args.grace
    (sym (c.args.self.now.waits c.in_ok-since.field-0.now.0 c.in_ok-since.field-0.now.1)
    ∙ c.in_ok-since.ensures.member) (omega (arith, c.saturating_sub.ensures))
