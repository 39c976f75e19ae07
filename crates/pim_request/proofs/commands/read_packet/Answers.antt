use Rattle.pim_request.proofs.Cited.{refl, [], ◌∷◌, decimal, number, address, digits, most, IsFault, packet_forms}
use Rattle.pim_request.proofs.Cited.{no_words, words_left}
use Rattle.pim_request.proofs.Faults.{reported, at_slot, at_front, step}
use Rattle.pim_request.proofs.commands.read_packet.Goals as goal

pub returns-in_err-port-clause-fault : goal.returns-in_err-port-clause-fault
returns-in_err-port-clause-fault c =
    reported (IsFault packet_forms c.args.command.now (words_left c.args.left)) c.in_err-port.field-0.0 c.from_residual.result c.from_residual.ensures.1
    (at_slot (number 0 most) (address ∷ address ∷ digits ∷ []) [] c.args.command.now (words_left c.args.left) c.in_err-port.field-0.0 c.in_err-port.ensures.fault)

pub returns-in_err-ends-clause-fault : goal.returns-in_err-ends-clause-fault
returns-in_err-ends-clause-fault c =
    reported (IsFault packet_forms c.args.command.now (words_left c.args.left)) c.in_err-ends.field-0.0 c.from_residual-in_err-ends.result c.from_residual-in_err-ends.ensures.1
    (step (number 0 most) ((address ∷ address ∷ digits ∷ []) ∷ []) c.args.command.now (decimal c.in_ok-port.port.number) (words_left c.in_ok-port.port.left) (words_left c.args.left) c.in_err-ends.field-0.0 c.in_ok-port.ensures.read
    (c.in_ok-port.port.number, c.in_ok-port.ensures.low, c.in_ok-port.ensures.high, refl)
    (at_front address address (digits ∷ []) [] c.args.command.now (words_left c.in_ok-port.port.left) c.in_err-ends.field-0.0 c.in_err-ends.ensures.fault))

pub returns-in_err-hex-clause-fault : goal.returns-in_err-hex-clause-fault
returns-in_err-hex-clause-fault c =
    reported (IsFault packet_forms c.args.command.now (words_left c.args.left)) c.in_err-hex.field-0.0 c.from_residual-in_err-hex.result c.from_residual-in_err-hex.ensures.1
    (step (number 0 most) ((address ∷ address ∷ digits ∷ []) ∷ []) c.args.command.now (decimal c.in_ok-port.port.number) (words_left c.in_ok-port.port.left) (words_left c.args.left) c.in_err-hex.field-0.0 c.in_ok-port.ensures.read
    (c.in_ok-port.port.number, c.in_ok-port.ensures.low, c.in_ok-port.ensures.high, refl)
    (let ends = c.in_ok-ends.ensures.read in
    let others = words_left c.in_ok-ends.ends.left in
    step address ((address ∷ digits ∷ []) ∷ []) c.args.command.now ends.0 (ends.1 ∷ others) (words_left c.in_ok-port.port.left) c.in_err-hex.field-0.0 ends.4 (c.in_ok-ends.ends.first, ends.2)
    (step address ((digits ∷ []) ∷ []) c.args.command.now ends.1 others (ends.1 ∷ others) c.in_err-hex.field-0.0 refl (c.in_ok-ends.ends.second, ends.3)
    (at_slot digits [] [] c.args.command.now others c.in_err-hex.field-0.0 c.in_err-hex.ensures.fault))))

pub returns-in_err-line_end-clause-fault : goal.returns-in_err-line_end-clause-fault
returns-in_err-line_end-clause-fault c =
    reported (IsFault packet_forms c.args.command.now (words_left c.args.left)) c.in_err-line_end.field-0.0 c.from_residual-in_err-line_end.result c.from_residual-in_err-line_end.ensures.1
    (step (number 0 most) ((address ∷ address ∷ digits ∷ []) ∷ []) c.args.command.now (decimal c.in_ok-port.port.number) (words_left c.in_ok-port.port.left) (words_left c.args.left) c.in_err-line_end.field-0.0 c.in_ok-port.ensures.read
    (c.in_ok-port.port.number, c.in_ok-port.ensures.low, c.in_ok-port.ensures.high, refl)
    (let ends = c.in_ok-ends.ensures.read in
    let others = words_left c.in_ok-ends.ends.left in
    step address ((address ∷ digits ∷ []) ∷ []) c.args.command.now ends.0 (ends.1 ∷ others) (words_left c.in_ok-port.port.left) c.in_err-line_end.field-0.0 ends.4 (c.in_ok-ends.ends.first, ends.2)
    (step address ((digits ∷ []) ∷ []) c.args.command.now ends.1 others (ends.1 ∷ others) c.in_err-line_end.field-0.0 refl (c.in_ok-ends.ends.second, ends.3)
    (step digits no_words c.args.command.now c.in_ok-hex.hex.word.now (words_left c.in_ok-hex.hex.left) others c.in_err-line_end.field-0.0 c.in_ok-hex.ensures.read c.in_ok-hex.ensures.hex (c.in_err-line_end.ensures.fault c.args.command.now)))))
