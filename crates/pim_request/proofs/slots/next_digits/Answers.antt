use Rattle.pim_request.proofs.Cited.{ap, ◌∙◌, words_left}
use Rattle.pim_request.proofs.Pairs.{one_word}
use Rattle.pim_request.proofs.slots.next_digits.Goals as goal

pub returns-then-is_hex-clause-read : goal.returns-then-is_hex-clause-read
returns-then-is_hex-clause-read c = ap words_left c.in-Some.is ∙ one_word c.in-Some.text.now (c.is_hex.ensures.yes c.if-is_hex.true)
