use Rattle.pim_request.proofs.Cited.{address, IsFault, port_forms, delays_forms, words_left}
use Rattle.pim_request.proofs.Faults.{reported, at_each, step}
use Rattle.pim_request.proofs.commands.read_port.Goals as goal

pub returns-in_err-read-clause-fault : goal.returns-in_err-read-clause-fault
returns-in_err-read-clause-fault c =
    reported (IsFault port_forms c.args.command.now (words_left c.args.left)) c.in_err-read.field-0.0 c.from_residual.result c.from_residual.ensures.1
    (at_each address delays_forms tt c.args.command.now (words_left c.args.left) c.in_err-read.field-0.0 c.in_err-read.ensures.fault)

pub returns-in_err-delays-clause-fault : goal.returns-in_err-delays-clause-fault
returns-in_err-delays-clause-fault c =
    reported (IsFault port_forms c.args.command.now (words_left c.args.left)) c.in_err-delays.field-0.0 c.from_residual-in_err-delays.result c.from_residual-in_err-delays.ensures.1
    (let read = c.in_ok-read.ensures.read in
    step address delays_forms c.args.command.now read.0 (words_left c.in_ok-read.read.left) (words_left c.args.left) c.in_err-delays.field-0.0 read.2 (c.in_ok-read.read.address, read.1) c.in_err-delays.ensures.fault)
