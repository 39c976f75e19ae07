use Rattle.pim_request.proofs.Cited.{[], ◌∷◌, codes, WordsFault, number, IsFault, budget_forms, number_forms, words_left}
use Rattle.std.proofs.lemmas.Result.{IfErr-weaker}
use Rattle.pim_request.proofs.Faults.{another, after_key}
use Rattle.pim_request.proofs.tails.last_budget.Goals as goal

pub returns-then-not-is_word-clause-fault : goal.returns-then-not-is_word-clause-fault
returns-then-not-is_word-clause-fault c =
    another (codes "budget") (number 70 65000 ∷ []) c.in-Some.cut.word (words_left c.in-Some.cut.left) (words_left c.args.left) c.in-Some.ensures.word
    (λ is. let so = c.is_word.ensures.no is in let other = c.if-not-is_word.true in absurd cc) c.args.command.now

pub returns-clause-fault : goal.returns-clause-fault
returns-clause-fault c =
    IfErr-weaker c.last_number.result (IsFault (number_forms 70 65000) c.args.command.now (words_left c.in-Some.cut.left)) (IsFault budget_forms c.args.command.now (words_left c.args.left))
    (λ (fault : WordsFault) is. after_key (codes "budget") (number 70 65000 ∷ []) c.args.command.now c.in-Some.cut.word.now (words_left c.in-Some.cut.left) (words_left c.args.left) fault c.in-Some.ensures.word (c.is_word.ensures.yes c.if-not-is_word.false) is)
    c.last_number.ensures.fault
