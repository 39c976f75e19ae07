use Rattle.pim_text.proofs.Words.{◌∙◌, sym, ◌++◌, append_cancel_left}
use Rattle.pim_text.proofs.Bytes.{named_is_field}
use Rattle.pim_text.proofs.FieldEnds.{same_some, not_some}
use Rattle.pim_text.proofs.OneName.{named_too}
use Rattle.pim_text.proofs.fields.read_address_after.Goals as goal

pub returns-in_err-address-clause-only : goal.returns-in_err-address-clause-only
returns-in_err-address-clause-only c a behind led (named, names, is) =
    let rest = append_cancel_left c.args.words.now c.in_ok-rest.rest.now (named ++ behind) (sym c.in_ok-rest.ensures ∙ is) in
    let cut = c.cut_field-front.ensures.only named behind (named_is_field named a names) led rest in
    absurd (not_some a (c.in_err-address.ensures.only a (named_too c.cut_field-front.result.field.now named a cut.0 names)))

pub returns-clause-only : goal.returns-clause-only
returns-clause-only c a behind led (named, names, is) =
    let rest = append_cancel_left c.args.words.now c.in_ok-rest.rest.now (named ++ behind) (sym c.in_ok-rest.ensures ∙ is) in
    let cut = c.cut_field-front.ensures.only named behind (named_is_field named a names) led rest in
    (same_some c.in_ok-address.address a (c.in_ok-address.ensures.only a (named_too c.cut_field-front.result.field.now named a cut.0 names)), cut.1)
