use Rattle.std.proofs.Common.{◌≡◌, ◌∙◌, length}
use Rattle.pim_time.proofs.Points.{point_is_found, cut_there, same_some, not_some}
use Rattle.pim_time.proofs.cuts.cut_at_point.Goals as goal

pub returns-in_err-place-clause-only : goal.returns-in_err-place-clause-only
returns-in_err-place-clause-only c front tail digits whole =
    absurd (not_some (length front) (c.in_err-place.ensures ∙ point_is_found c.args.text.now front tail digits whole))

pub returns-clause-only : goal.returns-clause-only
returns-clause-only c front tail digits whole =
    let found = point_is_found c.args.text.now front tail digits whole in
    let place : c.in_ok-place.place ≡ length front = same_some c.in_ok-place.place (length front) (c.in_ok-place.ensures ∙ found) in
    let there = cut_there c.args.text.now front _ c.in_ok-place.place whole place in
    (c.split_at.ensures.front ∙ there.0, c.split_at.ensures.back ∙ there.1)
