use Rattle.pim_form.proofs.Words.{◌≡◌, ◌∙◌, ℕ, ◌+◌, List, length, take, ◌++◌, ap, arith, canonical_set_length, rp_of, written_set}
use Rattle.pim_form.proofs.Sets.{few_sources, front_and_piece}
use Rattle.pim_form.proofs.written.write_set_at.Goals as goal

pub joined_count-requires : goal.joined_count-requires
joined_count-requires g c = few_sources (rp_of g.F.Family.family c.args.routes.now) c.args.group.now c.requires.set.3

pub split_at_mut-place-requires : goal.split_at_mut-place-requires
split_at_mut-place-requires g c =
    let rps = rp_of g.F.Family.family c.args.routes.now in
    let this = c.args.group.now in
    let size : c.set_length-length.result ≡ canonical_set_length g.F.Family.family (length (written_set rps this).joined) (length (written_set rps this).pruned) =
    c.set_length-length.ensures ∙ ap (λ (n : ℕ). canonical_set_length g.F.Family.family n c.pruned_count.result) (c.joined_count.ensures rps c.requires.rp)
    ∙ ap (canonical_set_length g.F.Family.family (length (written_set rps this).joined)) (c.pruned_count.ensures rps) in
    omega (arith, size, c.requires.room, c.split_at_mut-behind.ensures.back_len)

pub write_set-requires-clause-length : goal.write_set-requires-clause-length
write_set-requires-clause-length g c =
    let rps = rp_of g.F.Family.family c.args.routes.now in
    let this = c.args.group.now in
    let size : c.set_length-length.result ≡ canonical_set_length g.F.Family.family (length (written_set rps this).joined) (length (written_set rps this).pruned) =
    c.set_length-length.ensures ∙ ap (λ (n : ℕ). canonical_set_length g.F.Family.family n c.pruned_count.result) (c.joined_count.ensures rps c.requires.rp)
    ∙ ap (canonical_set_length g.F.Family.family (length (written_set rps this).joined)) (c.pruned_count.ensures rps) in
    c.split_at_mut-place.ensures.front_len ∙ size

pub returns-clause-end : goal.returns-clause-end
returns-clause-end g c =
    let rps = rp_of g.F.Family.family c.args.routes.now in
    let this = c.args.group.now in
    let size : c.set_length-length.result ≡ canonical_set_length g.F.Family.family (length (written_set rps this).joined) (length (written_set rps this).pruned) =
    c.set_length-length.ensures ∙ ap (λ (n : ℕ). canonical_set_length g.F.Family.family n c.pruned_count.result) (c.joined_count.ensures rps c.requires.rp)
    ∙ ap (canonical_set_length g.F.Family.family (length (written_set rps this).joined)) (c.pruned_count.ensures rps) in
    ap (λ (n : ℕ). c.args.at + n) size

pub returns-clause-front : goal.returns-clause-front
returns-clause-front g c =
    front_and_piece c.args.at c.set_length-length.result c.split_at_mut-behind.result.0.now c.write_set.new.bytes c.split_at_mut-place.result.1.now
    c.split_at_mut-behind.ensures.front_len (omega (arith, c.write_set.auto.bytes, c.split_at_mut-place.ensures.front_len))
    ∙ ap (λ (front : List ℕ). front ++ c.write_set.new.bytes) c.split_at_mut-behind.ensures.front
    ∙ ap (λ (piece : List ℕ). take c.args.at c.args.bytes.now ++ piece) c.write_set.ensures
