use Rattle.pim_words.proofs.Words.{sym, subst, map, app_of, IsOffered}
use Rattle.pim_words.proofs.Offered.{planned_in_range, whole}
use Rattle.pim_words.proofs.planning.plan.Goals as goal

pub plan_by-requires-clause-offered : goal.plan_by-requires-clause-offered
plan_by-requires-clause-offered g c = subst IsOffered (sym c.in-Ok.ensures.app) whole

pub returns-clause-range : goal.returns-clause-range
returns-clause-range g c = planned_in_range (app_of c.in-Ok.whole) (map g.S.AsStr.text c.args.words.now) c.plan_by.result c.plan_by.ensures
