use Rattle.pim_down.proofs.Words.{◌+◌, ◌++◌, take, drop, get_or, ap, ◌∙◌, at, recorded, ppt_fires, on_ppt, record_after, what_seen, key_seen, timed_seen, record_seen, records_seen}
use Rattle.pim_down.proofs.Rpts.{same_default}
use Rattle.pim_down.proofs.running.timers.fire_pending.Goals as goal

pub returns-clause-reported : goal.returns-clause-reported
returns-clause-reported g c d =
    let bytes_of = g.F.Family.bytes_of in
    c.ppt_fires.ensures bytes_of ∙ ap (λ held. ppt_fires (record_after c.args.now (record_seen bytes_of held))) (c.get.ensures ∙ same_default c.args.records.now.items (at c.args.records.now c.args.place) c.get.result.now d c.requires.1)

pub returns-clause-left : goal.returns-clause-left
returns-clause-left g c d =
    let bytes_of = g.F.Family.bytes_of in
    let items = c.args.records.now.items in
    let seen = records_seen bytes_of items in
    let i = at c.args.records.now c.args.place in
    let it = c.get.ensures ∙ same_default items i c.get.result.now d c.requires.1 in
    c.replace_at-behind.ensures.left bytes_of d
    ∙ ap (λ machine. take i seen ++ (recorded (key_seen bytes_of (get_or items i d).key) machine ++ drop (i + 1) seen)) (c.on_ppt-machine.ensures bytes_of ∙ ap (λ held. on_ppt (what_seen bytes_of held.key.what) (timed_seen held.machine)) it)
