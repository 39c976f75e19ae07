use Rattle.pim_form.proofs.Kept.{none_kept}
use Rattle.pim_form.proofs.form.NormalForm.empty.Goals as goal

pub invariant_of-result : goal.invariant_of-result
invariant_of-result g c = none_kept g.F.Family.bytes_of c.new.result.items g.F.Family.family c.new-2.result.items c.new-2.ensures.items
