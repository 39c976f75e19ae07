use Rattle.std.proofs.Common.{sym}
use Rattle.pim_form.proofs.Searches.{found, missed}
use Rattle.pim_form.proofs.sorted.is_listed.Goals as goal

pub returns-in-Ok : goal.returns-in-Ok
returns-in-Ok g c = sym (found g.F.Family.bytes_of _ _ (λ a. g.met.F.Family.order_of_bytes a c.args.address) _ _ c.args.address c.in-Ok.ensures.bound c.in-Ok.ensures.ok)

pub returns-in-Err : goal.returns-in-Err
returns-in-Err g c = sym (missed g.F.Family.bytes_of _ _ (λ a. g.met.F.Family.order_of_bytes a c.args.address) _ _ c.requires c.in-Err.ensures.position)
