use Rattle.pim_text.proofs.Words.{Some, codes, drop, numbers_text}
use Rattle.pim_text.proofs.FieldEnds.{space_is_led}
use Rattle.pim_text.proofs.reading_lines.set_line.Goals as goal

pub returns-in_err-named-clause-only : goal.returns-in_err-named-clause-only
returns-in_err-named-clause-only c h (n, m, named) =
    let behind = numbers_text (codes " joined ") h.joined (codes " pruned ") h.pruned in
    absurd (c.in_err-named.ensures.only h.group behind (space_is_led (drop 1 behind)) named)

pub returns-in_err-two-clause-only : goal.returns-in_err-two-clause-only
returns-in_err-two-clause-only c h (n, m, named) =
    let behind = numbers_text (codes " joined ") h.joined (codes " pruned ") h.pruned in
    let first = c.in_ok-named.ensures.only h.group behind (space_is_led (drop 1 behind)) named in
    absurd (c.in_err-two.ensures.only h.joined h.pruned n m first.1)

pub returns-clause-only : goal.returns-clause-only
returns-clause-only c h (n, m, named) =
    let behind = numbers_text (codes " joined ") h.joined (codes " pruned ") h.pruned in
    let first = c.in_ok-named.ensures.only h.group behind (space_is_led (drop 1 behind)) named in
    let same = c.in_ok-two.ensures.only h.joined h.pruned n m first.1 in
    let address = first.0 in
    λ i. Some (record { group = address i; joined = same.0 i; pruned = same.1 i })
