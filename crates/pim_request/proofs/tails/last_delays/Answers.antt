use Rattle.pim_request.proofs.Cited.{refl, [], ◌∷◌, codes, decimal, number, IsFault, delays_forms, number_forms, words_left}
use Rattle.pim_request.proofs.Faults.{reported, at_slot, step, another, after_key}
use Rattle.pim_request.proofs.tails.last_delays.Goals as goal

pub returns-then-not-is_word-clause-fault : goal.returns-then-not-is_word-clause-fault
returns-then-not-is_word-clause-fault c =
    another (codes "delays") (number 0 32767 ∷ number 0 65535 ∷ []) c.in-Some.cut.word (words_left c.in-Some.cut.left) (words_left c.args.left) c.in-Some.ensures.word
    (λ is. let so = c.is_word.ensures.no is in let other = c.if-not-is_word.true in absurd cc) c.args.command.now

pub returns-in_err-propagation-clause-fault : goal.returns-in_err-propagation-clause-fault
returns-in_err-propagation-clause-fault c =
    reported (IsFault delays_forms c.args.command.now (words_left c.args.left)) c.in_err-propagation.field-0.0 c.from_residual.result c.from_residual.ensures.1
    (after_key (codes "delays") (number 0 32767 ∷ number 0 65535 ∷ []) c.args.command.now c.in-Some.cut.word.now (words_left c.in-Some.cut.left) (words_left c.args.left) c.in_err-propagation.field-0.0 c.in-Some.ensures.word (c.is_word.ensures.yes c.if-not-is_word.false)
    (at_slot (number 0 32767) (number 0 65535 ∷ []) [] c.args.command.now (words_left c.in-Some.cut.left) c.in_err-propagation.field-0.0 c.in_err-propagation.ensures.fault))

pub returns-in_err-override_ms-clause-fault : goal.returns-in_err-override_ms-clause-fault
returns-in_err-override_ms-clause-fault c =
    reported (IsFault delays_forms c.args.command.now (words_left c.args.left)) c.in_err-override_ms.field-0.0 c.from_residual-in_err-override_ms.result c.from_residual-in_err-override_ms.ensures.1
    (after_key (codes "delays") (number 0 32767 ∷ number 0 65535 ∷ []) c.args.command.now c.in-Some.cut.word.now (words_left c.in-Some.cut.left) (words_left c.args.left) c.in_err-override_ms.field-0.0 c.in-Some.ensures.word (c.is_word.ensures.yes c.if-not-is_word.false)
    (step (number 0 32767) (number_forms 0 65535) c.args.command.now (decimal c.in_ok-propagation.propagation.number) (words_left c.in_ok-propagation.propagation.left) (words_left c.in-Some.cut.left) c.in_err-override_ms.field-0.0
    c.in_ok-propagation.ensures.read (c.in_ok-propagation.propagation.number, c.in_ok-propagation.ensures.low, c.in_ok-propagation.ensures.high, refl) c.in_err-override_ms.ensures.fault))
