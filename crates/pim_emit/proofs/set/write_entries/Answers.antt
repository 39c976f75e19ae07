use Rattle.pim_emit.proofs.Words.{◌≡◌, ◌+◌, ◌*◌, ◌++◌, ℕ, List, length, take, subst, arith, source_length, rp_of, star_of}
use Rattle.pim_emit.proofs.Words.{exceptions_in, piece_seen, source_entries, exception_entries, cut_piece, sources_seen}
use Rattle.pim_emit.proofs.SetWritten.{told_count, joined_count, entries_written, no_exceptions, all_exceptions}
use Rattle.pim_emit.proofs.set.write_entries.Goals as goal

pub returns-then-piece-clause-joined : goal.returns-then-piece-clause-joined
returns-then-piece-clause-joined g c =
    let bytes_of = g.F.Family.bytes_of in
    let form = c.args.demand.now.form in
    let reported = c.write_sources-reported in
    let this = cut_piece reported.result.count (piece_seen bytes_of c.args.piece.now) form in
    let sources = told_count (piece_seen bytes_of c.args.piece.now) form c.args.most (sources_seen bytes_of reported.result) reported.ensures.reported in
    omega (arith, joined_count (rp_of g.F.Family.family c.args.demand.now.table) this, sources, c.write_star-stars.ensures.count, c.write_star-stars.ensures.one)

pub returns-else-piece-clause-joined : goal.returns-else-piece-clause-joined
returns-else-piece-clause-joined g c =
    let bytes_of = g.F.Family.bytes_of in
    let form = c.args.demand.now.form in
    let reported = c.write_sources-reported in
    let this = cut_piece reported.result.count (piece_seen bytes_of c.args.piece.now) form in
    let sources = told_count (piece_seen bytes_of c.args.piece.now) form c.args.most (sources_seen bytes_of reported.result) reported.ensures.reported in
    omega (arith, joined_count (rp_of g.F.Family.family c.args.demand.now.table) this, sources, c.write_star-stars.ensures.count, c.write_star-stars.ensures.one)

pub returns-then-piece-clause-written : goal.returns-then-piece-clause-written
returns-then-piece-clause-written g c =
    let family = g.F.Family.family in
    let bytes_of = g.F.Family.bytes_of in
    let form = c.args.demand.now.form in
    let reported = c.write_sources-reported in
    let this = cut_piece reported.result.count (piece_seen bytes_of c.args.piece.now) form in
    let size = c.source_length.ensures in
    let exceptions : exceptions_in (bytes_of c.args.piece.now.group) form ≡ _ = all_exceptions c.args.piece.now.starred (star_of (bytes_of c.args.piece.now.group) form) c.if-piece.true in
    entries_written family (rp_of family c.args.demand.now.table) this c.write_star-stars.result reported.result.count (source_length family)
    c.write_star-stars.new.bytes reported.new.bytes c.write_exceptions.new.bytes c.write_star-stars.ensures.count
    (told_count (piece_seen bytes_of c.args.piece.now) form c.args.most (sources_seen bytes_of reported.result) reported.ensures.reported) c.write_star-stars.ensures.written
    (subst (λ n. take (c.write_star-stars.result * n + reported.result.count * source_length family) reported.new.bytes
    ≡ take (c.write_star-stars.result * n) c.write_star-stars.new.bytes ++ source_entries family this.sources) size reported.ensures.written)
    (subst (λ (l : List (List ℕ)). take (c.write_star-stars.result * source_length family + reported.result.count * source_length family + length l * source_length family) c.write_exceptions.new.bytes
    ≡ take (c.write_star-stars.result * source_length family + reported.result.count * source_length family) reported.new.bytes ++ exception_entries family l) exceptions
    (subst (λ n. take (c.write_star-stars.result * source_length family + reported.result.count * n + length (exceptions_in (bytes_of c.args.piece.now.group) form) * source_length family) c.write_exceptions.new.bytes
    ≡ take (c.write_star-stars.result * source_length family + reported.result.count * n) reported.new.bytes ++ exception_entries family (exceptions_in (bytes_of c.args.piece.now.group) form)) c.source_length-then-piece.ensures
    (subst (λ n. take (c.write_star-stars.result * n + reported.result.count * c.source_length-then-piece.result + length (exceptions_in (bytes_of c.args.piece.now.group) form) * source_length family) c.write_exceptions.new.bytes
    ≡ take (c.write_star-stars.result * n + reported.result.count * c.source_length-then-piece.result) reported.new.bytes ++ exception_entries family (exceptions_in (bytes_of c.args.piece.now.group) form)) size c.write_exceptions.ensures.written)))

pub returns-else-piece-clause-written : goal.returns-else-piece-clause-written
returns-else-piece-clause-written g c =
    let family = g.F.Family.family in
    let bytes_of = g.F.Family.bytes_of in
    let form = c.args.demand.now.form in
    let reported = c.write_sources-reported in
    let this = cut_piece reported.result.count (piece_seen bytes_of c.args.piece.now) form in
    entries_written family (rp_of family c.args.demand.now.table) this c.write_star-stars.result reported.result.count (source_length family)
    c.write_star-stars.new.bytes reported.new.bytes reported.new.bytes c.write_star-stars.ensures.count
    (told_count (piece_seen bytes_of c.args.piece.now) form c.args.most (sources_seen bytes_of reported.result) reported.ensures.reported) c.write_star-stars.ensures.written
    (subst (λ n. take (c.write_star-stars.result * n + reported.result.count * source_length family) reported.new.bytes
    ≡ take (c.write_star-stars.result * n) c.write_star-stars.new.bytes ++ source_entries family this.sources) c.source_length.ensures reported.ensures.written)
    (no_exceptions family c.args.piece.now.starred (star_of (bytes_of c.args.piece.now.group) form) (c.write_star-stars.result * source_length family + reported.result.count * source_length family)
    (source_length family) reported.new.bytes c.if-piece.false)
