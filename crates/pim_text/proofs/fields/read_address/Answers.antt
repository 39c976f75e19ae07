use Rattle.pim_text.proofs.Bytes.{named_is_text}
use Rattle.pim_text.proofs.OneName.{only}
use Rattle.pim_text.proofs.fields.read_address.Goals as goal

pub returns-in_default-clause-only : goal.returns-in_default-clause-only
returns-in_default-clause-only c a named = absurd (c.in_default.ensures.cases.0 (named_is_text c.args.text.now a named))

pub returns-clause-only : goal.returns-clause-only
returns-clause-only c a named =
    only c.text_names_one_address.ensures c.in-Ok.text.now c.args.text.now c.read_any_address.result c.in-Ok.ensures.cases.0 c.read_any_address.ensures a named
