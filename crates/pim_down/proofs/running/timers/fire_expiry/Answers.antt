use Rattle.pim_down.proofs.Words.{ap, ◌∙◌, at, et_fires, record_after, record_seen}
use Rattle.pim_down.proofs.Rpts.{same_default}
use Rattle.pim_down.proofs.running.timers.fire_expiry.Goals as goal

pub returns-clause-reported : goal.returns-clause-reported
returns-clause-reported g c d =
    let bytes_of = g.F.Family.bytes_of in
    c.et_fires.ensures bytes_of ∙ ap (λ held. et_fires (record_after c.args.now (record_seen bytes_of held))) (c.get.ensures ∙ same_default c.args.records.now.items (at c.args.records.now c.args.place) c.get.result.now d c.requires.1)
