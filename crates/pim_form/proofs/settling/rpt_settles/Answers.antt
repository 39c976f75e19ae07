use Rattle.pim_form.proofs.Words.{sym, subst, AreAscending}
use Rattle.pim_form.proofs.PortSettled.{excepted_up}
use Rattle.pim_form.proofs.settling.rpt_settles.Goals as goal

pub is_listed-requires : goal.is_listed-requires
is_listed-requires g c = subst AreAscending (sym c.exceptions.ensures) (excepted_up g.F.Family.family c.args.this.now.star c.is_normal.ensures.exceptions)
