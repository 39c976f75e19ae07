use Rattle.pim_text.proofs.Words.{Some, codes, drop, numbers_text}
use Rattle.pim_text.proofs.FieldEnds.{space_is_led}
use Rattle.pim_text.proofs.reading_lines.head_line.Goals as goal

pub returns-in_err-named-clause-only : goal.returns-in_err-named-clause-only
returns-in_err-named-clause-only c h (n, m, named) =
    let behind = numbers_text (codes " holdtime ") h.holdtime (codes " sets ") h.sets in
    absurd (c.in_err-named.ensures.only h.upstream behind (space_is_led (drop 1 behind)) named)

pub returns-in_err-two-clause-only : goal.returns-in_err-two-clause-only
returns-in_err-two-clause-only c h (n, m, named) =
    let behind = numbers_text (codes " holdtime ") h.holdtime (codes " sets ") h.sets in
    let first = c.in_ok-named.ensures.only h.upstream behind (space_is_led (drop 1 behind)) named in
    absurd (c.in_err-two.ensures.only h.holdtime h.sets n m first.1)

pub returns-clause-only : goal.returns-clause-only
returns-clause-only c h (n, m, named) =
    let behind = numbers_text (codes " holdtime ") h.holdtime (codes " sets ") h.sets in
    let first = c.in_ok-named.ensures.only h.upstream behind (space_is_led (drop 1 behind)) named in
    let same = c.in_ok-two.ensures.only h.holdtime h.sets n m first.1 in
    let address = first.0 in
    λ i. Some (record { upstream = address i; holdtime = same.0 i; sets = same.1 i })
