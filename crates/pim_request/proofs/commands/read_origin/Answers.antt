use Rattle.pim_request.proofs.Cited.{refl, decimal, number, address, most, IsFault, sender_forms, destination_forms, words_left}
use Rattle.pim_request.proofs.Faults.{reported, each, at_each, step}
use Rattle.pim_request.proofs.commands.read_origin.Goals as goal

pub returns-in_err-port-clause-fault : goal.returns-in_err-port-clause-fault
returns-in_err-port-clause-fault c =
    reported (IsFault sender_forms c.args.command.now (words_left c.args.left)) c.in_err-port.field-0.0 c.from_residual.result c.from_residual.ensures.1
    (at_each (number 0 most) (each address destination_forms) tt c.args.command.now (words_left c.args.left) c.in_err-port.field-0.0 c.in_err-port.ensures.fault)

pub returns-in_err-source-clause-fault : goal.returns-in_err-source-clause-fault
returns-in_err-source-clause-fault c =
    reported (IsFault sender_forms c.args.command.now (words_left c.args.left)) c.in_err-source.field-0.0 c.from_residual-in_err-source.result c.from_residual-in_err-source.ensures.1
    (step (number 0 most) (each address destination_forms) c.args.command.now (decimal c.in_ok-port.port.number) (words_left c.in_ok-port.port.left) (words_left c.args.left) c.in_err-source.field-0.0 c.in_ok-port.ensures.read
    (c.in_ok-port.port.number, c.in_ok-port.ensures.low, c.in_ok-port.ensures.high, refl)
    (at_each address destination_forms tt c.args.command.now (words_left c.in_ok-port.port.left) c.in_err-source.field-0.0 c.in_err-source.ensures.fault))

pub returns-in_err-destination-clause-fault : goal.returns-in_err-destination-clause-fault
returns-in_err-destination-clause-fault c =
    reported (IsFault sender_forms c.args.command.now (words_left c.args.left)) c.in_err-destination.field-0.0 c.from_residual-in_err-destination.result c.from_residual-in_err-destination.ensures.1
    (step (number 0 most) (each address destination_forms) c.args.command.now (decimal c.in_ok-port.port.number) (words_left c.in_ok-port.port.left) (words_left c.args.left) c.in_err-destination.field-0.0 c.in_ok-port.ensures.read
    (c.in_ok-port.port.number, c.in_ok-port.ensures.low, c.in_ok-port.ensures.high, refl)
    (let source = c.in_ok-source.ensures.read in
    step address destination_forms c.args.command.now source.0 (words_left c.in_ok-source.source.left) (words_left c.in_ok-port.port.left) c.in_err-destination.field-0.0 source.2 (c.in_ok-source.source.address, source.1) c.in_err-destination.ensures.fault))
