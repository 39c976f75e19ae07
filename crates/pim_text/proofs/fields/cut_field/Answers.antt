use Rattle.std.proofs.Common.{◌≡◌, ◌∙◌, sym, length}
use Rattle.pim_text.proofs.FieldEnds.{end_is_found, cut_there, same_some, not_some}
use Rattle.pim_text.proofs.fields.cut_field.Goals as goal

pub returns-in-Some-clause-only : goal.returns-in-Some-clause-only
returns-in-Some-clause-only c field behind is led cut =
    let found = end_is_found c.args.text.now field behind is led cut in
    let place : c.in-Some.place ≡ length field = same_some c.in-Some.place (length field) (sym c.in-Some.is ∙ (c.first_end.ensures ∙ found)) in
    let there = cut_there c.args.text.now field behind c.in-Some.place cut place in
    (c.split_at.ensures.front ∙ there.0, c.split_at.ensures.back ∙ there.1)

pub returns-in-None-clause-only : goal.returns-in-None-clause-only
returns-in-None-clause-only c field behind is led cut =
    let found = end_is_found c.args.text.now field behind is led cut in
    absurd (not_some (length field) (sym c.in-None.is ∙ (c.first_end.ensures ∙ found)))
