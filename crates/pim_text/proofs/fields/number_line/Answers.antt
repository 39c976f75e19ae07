use Rattle.pim_text.proofs.Words.{◌∙◌, sym, [], ◌∷◌, ◌++◌, decimal, arith, append_cancel_left}
use Rattle.pim_text.proofs.Bytes.{decimal_is_field}
use Rattle.pim_text.proofs.FieldEnds.{feed_is_led}
use Rattle.pim_text.proofs.fields.number_line.Goals as goal

pub returns-then-not-is_end-clause-only : goal.returns-then-not-is_end-clause-only
returns-then-not-is_end-clause-only c n small is =
    let rest = append_cancel_left c.args.words.now c.in_ok-rest.rest.now (decimal n ++ (10 ∷ [])) (sym c.in_ok-rest.ensures ∙ is) in
    let cut = c.cut_field-front.ensures.only (decimal n) (10 ∷ []) (decimal_is_field n (omega (arith, small, c.ranges.limit.fits))) feed_is_led rest in
    let ends = c.is_end.ensures.no cut.1 in
    let not_so = c.if-not-is_end.true in
    absurd cc

pub returns-clause-only : goal.returns-clause-only
returns-clause-only c n small is =
    let rest = append_cancel_left c.args.words.now c.in_ok-rest.rest.now (decimal n ++ (10 ∷ [])) (sym c.in_ok-rest.ensures ∙ is) in
    let cut = c.cut_field-front.ensures.only (decimal n) (10 ∷ []) (decimal_is_field n (omega (arith, small, c.ranges.limit.fits))) feed_is_led rest in
    c.read_decimal.ensures.only n small cut.0
