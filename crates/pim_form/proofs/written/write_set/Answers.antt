use Rattle.pim_form.proofs.Words.{◌≡◌, ◌∙◌, ℕ, ◌+◌, ◌*◌, ◌/◌, ◌%◌, ◌≤◌, List, [], ◌∷◌, ◌++◌, length, sym, ap, arith}
use Rattle.pim_form.proofs.Words.{flat_map, length-map, canonical_group, group_length, source_length, rp_of}
use Rattle.pim_form.proofs.Words.{canonical_source_entry, canonical_rpt_entry, exceptions_of, star_entries, written_set}
use Rattle.pim_form.proofs.Sets.{pruned_count, joined_count, stars_count, exceptions_room, set_spelled}
use Rattle.pim_form.proofs.written.write_set.Goals as goal

-- the two bytes of a count
abbrev counted : ℕ → List ℕ
counted n = n / 256 % 256 ∷ n % 256 ∷ []

-- the star has room behind the front of a set, and the sources behind the star
rooms : (size group star sources joined pruned whole first second : ℕ) → joined ≡ star + sources → whole ≡ group + 4 + joined * size + pruned * size
    → first + (group + 4) ≡ whole → (star * size ≤ first) × (second + star * size ≡ first → sources * size ≤ second)
rooms size group star sources joined pruned whole first second join is one = (grind (arith, join, is, one), λ two. grind (arith, join, is, one, two))

pub split_at_mut-star-requires : goal.split_at_mut-star-requires
split_at_mut-star-requires g c =
    let rps = rp_of g.F.Family.family c.args.routes.now in
    let this = c.args.group.now in
    let sources : length c.sources-sources.result.now ≡ length this.sources = sym (length-map c.sources-sources.result.now g.F.Family.bytes_of) ∙ ap length c.sources-sources.ensures in
    let stars : c.from-stars.result ≡ length (star_entries (rps this.group) this.star) =
    stars_count g.F.Family.family (rps this.group) this.star c.star.result c.from-stars.result c.requires.rp c.star.ensures c.from-stars.ensures in
    let room = rooms (source_length g.F.Family.family) (group_length g.F.Family.family) c.from-stars.result (length c.sources-sources.result.now)
    (length (written_set rps this).joined) (length (written_set rps this).pruned) (length c.args.bytes.now) (length c.split_at_mut-front.result.1.now) 0
    (omega (arith, joined_count rps this, stars, sources)) c.requires.length (omega (arith, c.split_at_mut-front.ensures.back_len)) in
    omega (arith, room.0, ap (λ (n : ℕ). c.from-stars.result * n) c.source_length.ensures)

pub split_at_mut-joins-requires : goal.split_at_mut-joins-requires
split_at_mut-joins-requires g c =
    let rps = rp_of g.F.Family.family c.args.routes.now in
    let this = c.args.group.now in
    let sources : length c.sources-sources.result.now ≡ length this.sources = sym (length-map c.sources-sources.result.now g.F.Family.bytes_of) ∙ ap length c.sources-sources.ensures in
    let stars : c.from-stars.result ≡ length (star_entries (rps this.group) this.star) =
    stars_count g.F.Family.family (rps this.group) this.star c.star.result c.from-stars.result c.requires.rp c.star.ensures c.from-stars.ensures in
    let room = rooms (source_length g.F.Family.family) (group_length g.F.Family.family) c.from-stars.result (length c.sources-sources.result.now)
    (length (written_set rps this).joined) (length (written_set rps this).pruned) (length c.args.bytes.now) (length c.split_at_mut-front.result.1.now) (length c.split_at_mut-star.result.1.now)
    (omega (arith, joined_count rps this, stars, sources)) c.requires.length (omega (arith, c.split_at_mut-front.ensures.back_len)) in
    let two = room.1 (ap (λ (n : ℕ). length c.split_at_mut-star.result.1.now + c.from-stars.result * n) (sym c.source_length.ensures) ∙ c.split_at_mut-star.ensures.back_len) in
    omega (arith, two, ap (λ (n : ℕ). length c.sources-sources.result.now * n) c.source_length-2.ensures)

pub write_exceptions-requires : goal.write_exceptions-requires
write_exceptions-requires g c =
    let rps = rp_of g.F.Family.family c.args.routes.now in
    let this = c.args.group.now in
    let sources : length c.sources-sources.result.now ≡ length this.sources = sym (length-map c.sources-sources.result.now g.F.Family.bytes_of) ∙ ap length c.sources-sources.ensures in
    let exceptions : length c.exceptions-exceptions.result.now ≡ length (exceptions_of this.star) =
    sym (length-map c.exceptions-exceptions.result.now g.F.Family.bytes_of) ∙ ap length c.exceptions-exceptions.ensures in
    let stars : c.from-stars.result ≡ length (star_entries (rps this.group) this.star) =
    stars_count g.F.Family.family (rps this.group) this.star c.star.result c.from-stars.result c.requires.rp c.star.ensures c.from-stars.ensures in
    exceptions_room (source_length g.F.Family.family) (group_length g.F.Family.family) c.from-stars.result (length c.sources-sources.result.now) (length c.exceptions-exceptions.result.now)
    (length (written_set rps this).joined) (length (written_set rps this).pruned) (length c.args.bytes.now) (length c.split_at_mut-front.result.1.now)
    (length c.split_at_mut-star.result.1.now) (length c.split_at_mut-joins.result.1.now)
    (omega (arith, joined_count rps this, stars, sources)) (omega (arith, pruned_count this.star, exceptions))
    c.requires.length (omega (arith, c.split_at_mut-front.ensures.back_len)) (ap (λ (n : ℕ). length c.split_at_mut-star.result.1.now + c.from-stars.result * n) (sym c.source_length.ensures) ∙ c.split_at_mut-star.ensures.back_len)
    (ap (λ (n : ℕ). length c.split_at_mut-joins.result.1.now + length c.sources-sources.result.now * n) (sym c.source_length-2.ensures) ∙ c.split_at_mut-joins.ensures.back_len)

pub returns : goal.returns
returns g c =
    let rps = rp_of g.F.Family.family c.args.routes.now in
    let this = c.args.group.now in
    let sources : length c.sources-sources.result.now ≡ length this.sources = sym (length-map c.sources-sources.result.now g.F.Family.bytes_of) ∙ ap length c.sources-sources.ensures in
    let exceptions : length c.exceptions-exceptions.result.now ≡ length (exceptions_of this.star) =
    sym (length-map c.exceptions-exceptions.result.now g.F.Family.bytes_of) ∙ ap length c.exceptions-exceptions.ensures in
    let stars : c.from-stars.result ≡ length (star_entries (rps this.group) this.star) =
    stars_count g.F.Family.family (rps this.group) this.star c.star.result c.from-stars.result c.requires.rp c.star.ensures c.from-stars.ensures in
    set_spelled counted g.F.Family.family rps this (c.from-stars.result + length c.sources-sources.result.now) (length c.exceptions-exceptions.result.now)
    c.put_group_and_counts.new.bytes c.write_star.new.bytes c.write_sources.new.bytes c.write_exceptions.new.bytes
    (omega (arith, joined_count rps this, stars, sources)) (omega (arith, pruned_count this.star, exceptions))
    (c.put_group_and_counts.ensures ∙ ap (λ (group : List ℕ). canonical_group g.F.Family.family group ++ counted (c.from-stars.result + length c.sources-sources.result.now) ++ counted (length c.exceptions-exceptions.result.now)) c.group.ensures)
    c.write_star.ensures
    (c.write_sources.ensures ∙ ap (flat_map (canonical_source_entry g.F.Family.family)) c.sources-sources.ensures)
    (c.write_exceptions.ensures ∙ ap (flat_map (canonical_rpt_entry g.F.Family.family)) c.exceptions-exceptions.ensures)
