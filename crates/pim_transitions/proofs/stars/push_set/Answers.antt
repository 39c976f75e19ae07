use Rattle.pim_transitions.proofs.Words.{◌∙◌, sym, on_ok_weaker, rp_of}
use Rattle.pim_transitions.proofs.StarSets.{set_without, set_with}
use Rattle.pim_transitions.proofs.stars.push_set.Goals as goal

pub returns-then-not-has_star_join-clause-stars : goal.returns-then-not-has_star_join-clause-stars
returns-then-not-has_star_join-clause-stars g c =
    set_without (rp_of g.F.Family.family c.args.routes.now) c.args.port c.args.ports.now.records c.args.set.now _
    (sym (rw (c.group-group.ensures, c.joined.ensures) at c.has_star_join.ensures) ∙ c.if-not-has_star_join.true)

pub returns-clause-stars : goal.returns-clause-stars
returns-clause-stars g c =
    on_ok_weaker c.push_group.result
    (λ adds. set_with (rp_of g.F.Family.family c.args.routes.now) c.args.port c.args.ports.now.records c.args.set.now _ _
    (sym (rw (c.group-group.ensures, c.joined.ensures) at c.has_star_join.ensures) ∙ c.if-not-has_star_join.false) adds)
    (rw c.group-group.ensures at c.push_group.ensures.rpts)
