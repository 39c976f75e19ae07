use Rattle.std.proofs.Common.{sym, ◌∙◌}
use Rattle.pim_request.proofs.Pairs.{is_pairs, pairs_are_digits, pairs_are_even}
use Rattle.pim_request.proofs.hex.is_hex.Goals as goal

pub returns-then-text-eq0-clause-yes : goal.returns-then-text-eq0-clause-yes
returns-then-text-eq0-clause-yes c so = is_pairs c.args.text.now c.if-text-eq0.true (sym c.are_digits.ensures ∙ so)

pub returns-then-text-eq0-clause-no : goal.returns-then-text-eq0-clause-no
returns-then-text-eq0-clause-no c is = c.are_digits.ensures ∙ pairs_are_digits c.args.text.now is

pub returns-else-text-eq0-clause-no : goal.returns-else-text-eq0-clause-no
returns-else-text-eq0-clause-no c is = absurd (c.if-text-eq0.false (pairs_are_even c.args.text.now is))
