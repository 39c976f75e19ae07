use Rattle.pim_request.proofs.Cited.{[], ◌∷◌, codes, address, IsFault, destination_forms, words_left}
use Rattle.pim_request.proofs.Faults.{reported, another, after_key}
use Rattle.pim_request.proofs.tails.last_destination.Goals as goal

pub returns-then-not-is_word-clause-fault : goal.returns-then-not-is_word-clause-fault
returns-then-not-is_word-clause-fault c =
    another (codes "to") (address ∷ []) c.in-Some.cut.word (words_left c.in-Some.cut.left) (words_left c.args.left) c.in-Some.ensures.word
    (λ is. let so = c.is_word.ensures.no is in let other = c.if-not-is_word.true in absurd cc) c.args.command.now

pub returns-in_err-address-clause-fault : goal.returns-in_err-address-clause-fault
returns-in_err-address-clause-fault c =
    reported (IsFault destination_forms c.args.command.now (words_left c.args.left)) c.in_err-address.field-0.0 c.from_residual.result c.from_residual.ensures.1
    (after_key (codes "to") (address ∷ []) c.args.command.now c.in-Some.cut.word.now (words_left c.in-Some.cut.left) (words_left c.args.left) c.in_err-address.field-0.0 c.in-Some.ensures.word (c.is_word.ensures.yes c.if-not-is_word.false)
    c.in_err-address.ensures.fault)
