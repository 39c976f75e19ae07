use Rattle.std.proofs.Common.{◌∙◌, sym, ap, length}
use Rattle.pim_form.proofs.AllPorts.{merged_first_none, merged_second_none}
use Rattle.pim_form.proofs.demand.either.Goals as goal

pub returns-then-count_left-eq0 : goal.returns-then-count_left-eq0
returns-then-count_left-eq0 g c = merged_first_none c.args.one c.args.other (sym (ap length c.groups.ensures) ∙ sym c.count_left.ensures ∙ c.if-count_left-eq0.true)

pub returns-then-count_left-eq0-2 : goal.returns-then-count_left-eq0-2
returns-then-count_left-eq0-2 g c = merged_second_none c.args.one c.args.other (sym (ap length c.groups-2.ensures) ∙ sym c.count_left-2.ensures ∙ c.if-count_left-eq0-2.true)
