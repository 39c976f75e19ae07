use Rattle.pim_text.proofs.Words.{◌∙◌, sym, [], ◌∷◌, ◌++◌, decimal, arith, append_cancel_left, number_text}
use Rattle.pim_text.proofs.Bytes.{decimal_is_field}
use Rattle.pim_text.proofs.FieldEnds.{led_then, same_some, not_some}
use Rattle.pim_text.proofs.fields.numbers_line.Goals as goal

pub returns-in_err-number-clause-only : goal.returns-in_err-number-clause-only
returns-in_err-number-clause-only c n m small other_small is =
    let rest = append_cancel_left c.args.words.now c.in_ok-rest.rest.now (decimal n ++ number_text c.args.others.now m) (sym c.in_ok-rest.ensures ∙ is) in
    let cut = c.cut_field-front.ensures.only (decimal n) (number_text c.args.others.now m) (decimal_is_field n (omega (arith, small, c.ranges.limit.fits))) (led_then c.args.others.now (decimal m ++ (10 ∷ [])) c.requires.led) rest in
    absurd (not_some n (c.in_err-number.ensures.only n small cut.0))

pub returns-in_err-another-clause-only : goal.returns-in_err-another-clause-only
returns-in_err-another-clause-only c n m small other_small is =
    let rest = append_cancel_left c.args.words.now c.in_ok-rest.rest.now (decimal n ++ number_text c.args.others.now m) (sym c.in_ok-rest.ensures ∙ is) in
    let cut = c.cut_field-front.ensures.only (decimal n) (number_text c.args.others.now m) (decimal_is_field n (omega (arith, small, c.ranges.limit.fits))) (led_then c.args.others.now (decimal m ++ (10 ∷ [])) c.requires.led) rest in
    absurd (not_some m (c.in_err-another.ensures.only m other_small cut.1))

pub returns-clause-only : goal.returns-clause-only
returns-clause-only c n m small other_small is =
    let rest = append_cancel_left c.args.words.now c.in_ok-rest.rest.now (decimal n ++ number_text c.args.others.now m) (sym c.in_ok-rest.ensures ∙ is) in
    let cut = c.cut_field-front.ensures.only (decimal n) (number_text c.args.others.now m) (decimal_is_field n (omega (arith, small, c.ranges.limit.fits))) (led_then c.args.others.now (decimal m ++ (10 ∷ [])) c.requires.led) rest in
    (same_some c.in_ok-number.number n (c.in_ok-number.ensures.only n small cut.0), same_some c.in_ok-another.another m (c.in_ok-another.ensures.only m other_small cut.1))
