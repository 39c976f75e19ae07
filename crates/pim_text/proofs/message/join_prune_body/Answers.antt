use Rattle.pim_text.proofs.Told.{message_fault}
use Rattle.pim_text.proofs.message.join_prune_body.Goals as goal

pub returns-in-Err-clause-fault : goal.returns-in-Err-clause-fault
returns-in-Err-clause-fault g c = rw c.reported.ensures (message_fault g.F.Family.family c.args.text.now c.in-Err.fault c.requires c.in-Err.ensures.fault)
