use Rattle.std.proofs.Common.{sym, ◌∙◌}
use Rattle.pim_addr.proofs.TextNames.{text_named, dotted_names_none, unread_names_none}
use Rattle.pim_addr.proofs.parsed.read_ipv6.Goals as goal

pub returns-then-has_dot-clause-no_text : goal.returns-then-has_dot-clause-no_text
returns-then-has_dot-clause-no_text c = dotted_names_none c.args.text.now (sym c.has_dot.ensures ∙ c.if-has_dot.true)

pub returns-in-Ok-clause-named : goal.returns-in-Ok-clause-named
returns-in-Ok-clause-named c =
    text_named c.args.text.now c.octets.result c.in-Ok.address.segments c.in-Ok.ensures.value (sym c.has_dot.ensures ∙ c.if-has_dot.false) c.octets.ensures

pub returns-in-Err-clause-no_text : goal.returns-in-Err-clause-no_text
returns-in-Err-clause-no_text c = unread_names_none c.args.text.now c.in-Err.ensures.value
