use Rattle.pim_form.proofs.OpenPlace.{closed_some, some_star, some_source}
use Rattle.pim_form.proofs.collect.close.Goals as goal
use Rattle.pim_form.proofs.collect.close.Goals.{then-group-via-then-group, then-group-via-else-group+then-group-2}

pub returns-in_ok-push : goal.returns-in_ok-push
returns-in_ok-push g c = λ row form last draft.
    let bytes_of = g.F.Family.bytes_of in
    closed_some bytes_of row c.args.places.now.items c.push.new.self.items c.args.group.now form c.in_ok-push.ensures.items
    (elim c.then-group.branch [
      | then-group-via-then-group w ↦ some_star bytes_of row c.args.group.now w.if-group.true
      | then-group-via-else-group+then-group-2 w ↦ some_source bytes_of row c.args.group.now w.if-group.false w.if-group-2.true last
    ]) last draft
