use Rattle.pim_merge.proofs.Words.{ap, subst, sym, ◌≤◌, ◌∙◌, moment_of, clock_after, MergeState, latest_moment}
use Rattle.pim_merge.proofs.Clocks.{after_bound}
use Rattle.pim_merge.proofs.merge.Merge.tick.Goals as goal

pub invariant_of-self : goal.invariant_of-self
invariant_of-self g c =
    after_bound c.self.inside.clock c.args.time latest_moment c.after-clock.result c.after-clock.ensures c.self.invariant c.requires

pub returns-clause-bound : goal.returns-clause-bound
returns-clause-bound g c =
    subst (λ n. n ≤ latest_moment) (sym c.moment_of.ensures)
    (after_bound c.self.inside.clock c.args.time latest_moment c.after-clock.result c.after-clock.ensures c.self.invariant c.requires)

pub returns-clause-moment : goal.returns-clause-moment
returns-clause-moment g c = c.moment_of.ensures ∙ (ap moment_of c.after-clock.ensures ∙ ap (λ (m : MergeState). moment_of (clock_after m.clock c.args.time)) c.self.view_is)
