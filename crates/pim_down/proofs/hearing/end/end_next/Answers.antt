use Rattle.pim_down.proofs.Words.{◌≡◌, List, ℕ, not, sym, subst, filter, is_over_in, records_seen}
use Rattle.pim_down.proofs.hearing.end.end_next.Goals as goal

pub returns-in-Some : goal.returns-in-Some
returns-in-Some g c =
    let bytes_of = g.F.Family.bytes_of in
    let seen = records_seen bytes_of c.args.records.now.items in
    let equal = (g.met.F.Family.equality_of_bytes _ c.args.group).0 (sym c.if-eq.ensures) in
    let is = c.in-Some.other-is in
    let same : bytes_of c.in-Some.other ≡ bytes_of c.args.group = cc in
    subst (λ (group : List ℕ). seen ≡ filter (λ held. not (is_over_in c.args.port group held)) seen) same (c.requires.ended c.in-Some.other c.in-Some.is)
