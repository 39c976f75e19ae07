use Rattle.std.proofs.Common.{sym, ◌∙◌, ◌==◌}
use Rattle.pim_files.proofs.Cut.{no_place, at_place}
use Rattle.pim_files.proofs.lines.cut_line.Goals as goal

pub returns-in_default : goal.returns-in_default
returns-in_default c = no_place (λ byte. byte == 10) c.args.text.now (sym c.first_line_feed.ensures ∙ c.in_default.is)

pub returns : goal.returns
returns c =
    rw c.split_at.ensures.front
    (at_place (λ byte. byte == 10) c.args.text.now c.in-Some.place c.in-Some-split_first.field-0-0.now c.in-Some-split_first.left.now (sym c.first_line_feed.ensures ∙ c.in-Some.is)
    (sym c.split_at.ensures.back ∙ c.in-Some-split_first.ensures.cases.0))
