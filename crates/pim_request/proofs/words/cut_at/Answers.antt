use Rattle.std.proofs.Common.{sym, ◌∙◌, ◌==◌}
use Rattle.pim_request.proofs.Cut.{no_place, at_place}
use Rattle.pim_request.proofs.words.cut_at.Goals as goal

pub returns-in_default : goal.returns-in_default
returns-in_default c = no_place (λ byte. byte == c.args.separator) c.args.text.now (sym c.first_place.ensures ∙ c.in_default.is)

pub returns : goal.returns
returns c =
    rw c.split_at.ensures.front
    (at_place (λ byte. byte == c.args.separator) c.args.text.now c.in-Some.place c.in-Some-split_first.field-0-0.now c.in-Some-split_first.left.now (sym c.first_place.ensures ∙ c.in-Some.is)
    (sym c.split_at.ensures.back ∙ c.in-Some-split_first.ensures.cases.0))
