use Rattle.pim_emit.proofs.Words.{◌∙◌, ◌+◌, ◌/◌, ◌%◌, ℕ, List, [], ◌∷◌, sym, arith, rp_of, piece_seen, cut_piece}
use Rattle.pim_emit.proofs.SetWritten.{pruned_count, set_written}
use Rattle.pim_emit.proofs.set.write_set.Goals as goal

-- the two bytes of a count
abbrev counted : ℕ → List ℕ
counted n = n / 256 % 256 ∷ n % 256 ∷ []

pub returns-clause-written : goal.returns-clause-written
returns-clause-written g c =
    let family = g.F.Family.family in
    let bytes_of = g.F.Family.bytes_of in
    let rps = rp_of family c.args.demand.now.table in
    let form = c.args.demand.now.form in
    let reported = c.write_entries-reported in
    let this = cut_piece reported.result.count (piece_seen bytes_of c.args.piece.now) form in
    set_written counted family rps this c.put_group_and_counts.new.bytes reported.new.bytes (c.from.result + reported.result.count) c.args.exceptions
    (omega (arith, reported.ensures.joined, c.from.ensures)) (c.requires.exceptions ∙ sym (pruned_count this.star))
    (omega (arith, c.put_group_and_counts.auto.bytes, c.split_at_mut-front.ensures.front_len)) c.put_group_and_counts.ensures reported.ensures.written
