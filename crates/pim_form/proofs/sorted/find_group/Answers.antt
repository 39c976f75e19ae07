use Rattle.pim_form.proofs.Words.{rules, answers_always, place_group}
use Rattle.pim_form.proofs.Searches.{same_at, missed}
use Rattle.pim_form.proofs.sorted.find_group.Goals as goal

pub returns-in-Ok : goal.returns-in-Ok
returns-in-Ok g c =
    let bytes_of = g.F.Family.bytes_of in
    let position = c.in-Ok.ensures.position (λ place. place.group) (answers_always _ _ _ (λ f a r h called. search rules)) in
    (c.in-Ok.ensures.bound, λ d. same_at (place_group bytes_of) (bytes_of c.args.group) _ (λ place. g.met.F.Family.order_of_bytes place.group c.args.group) c.args.places.now c.in-Ok.index d position)

pub returns-in-Err : goal.returns-in-Err
returns-in-Err g c =
    let bytes_of = g.F.Family.bytes_of in
    let position = c.in-Err.ensures.position (λ place. place.group) (answers_always _ _ _ (λ f a r h called. search rules)) in
    missed (place_group bytes_of) (bytes_of c.args.group) _ (λ place. g.met.F.Family.order_of_bytes place.group c.args.group) c.args.places.now _ c.requires position
