use Rattle.pim_request.proofs.Cited.{refl, [], ◌∷◌, codes, key, address, number, IsFault, writing_forms, option_forms, words_left}
use Rattle.pim_request.proofs.Faults.{reported, each, at_front, step}
use Rattle.pim_request.proofs.tails.last_writing.Goals as goal

pub returns-in_err-ends-clause-fault : goal.returns-in_err-ends-clause-fault
returns-in_err-ends-clause-fault c =
    reported (IsFault writing_forms c.args.command.now (words_left c.args.left)) c.in_err-ends.field-0.0 c.from_residual.result c.from_residual.ensures.1
    (at_front address address (key (codes "holdtime") ∷ number 99 65535 ∷ [])
    ((key (codes "holdtime") ∷ number 99 65535 ∷ key (codes "budget") ∷ number 70 65000 ∷ []) ∷ [] ∷ (key (codes "budget") ∷ number 70 65000 ∷ []) ∷ []) c.args.command.now (words_left c.args.left) c.in_err-ends.field-0.0 c.in_err-ends.ensures.fault)

pub returns-in_err-options-clause-fault : goal.returns-in_err-options-clause-fault
returns-in_err-options-clause-fault c =
    reported (IsFault writing_forms c.args.command.now (words_left c.args.left)) c.in_err-options.field-0.0 c.from_residual-in_err-options.result c.from_residual-in_err-options.ensures.1
    (let ends = c.in_ok-ends.ensures.read in
    let others = words_left c.in_ok-ends.ends.left in
    step address (each address option_forms) c.args.command.now ends.0 (ends.1 ∷ others) (words_left c.args.left) c.in_err-options.field-0.0 ends.4 (c.in_ok-ends.ends.first, ends.2)
    (step address option_forms c.args.command.now ends.1 others (ends.1 ∷ others) c.in_err-options.field-0.0 refl (c.in_ok-ends.ends.second, ends.3) c.in_err-options.ensures.fault))
