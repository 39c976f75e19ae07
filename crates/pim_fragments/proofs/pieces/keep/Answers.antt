use Rattle.std.proofs.Common.{◌∙◌, ap, List, ℕ}
use Rattle.pim_fragments.specs.Stored.{pieces_seen}
use Rattle.pim_fragments.specs.Pieces.{with_piece}
use Rattle.pim_fragments.proofs.Stored.{inserted}
use Rattle.pim_fragments.proofs.pieces.keep.Goals as goal

pub returns-clause-kept : goal.returns-clause-kept
returns-clause-kept c =
    ap pieces_seen c.in_ok-insert.ensures.entries ∙ inserted c.args.fragment.offset _ c.args.held.now.entries c.requires
    ∙ ap (λ (bytes : List ℕ). with_piece (record { offset = c.args.fragment.offset; more = c.args.fragment.more; bytes = bytes }) (pieces_seen c.args.held.now.entries)) c.in_ok-from_slice.ensures.items
