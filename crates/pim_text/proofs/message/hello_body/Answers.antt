use Rattle.pim_text.proofs.Told.{hello_fault}
use Rattle.pim_text.proofs.message.hello_body.Goals as goal

pub returns-in-Err-clause-fault : goal.returns-in-Err-clause-fault
returns-in-Err-clause-fault g c = rw c.reported.ensures (hello_fault g.F.Family.family c.args.text.now c.in-Err.fault c.requires c.in-Err.ensures.fault)
