use Rattle.std.proofs.Common.{◌∙◌, ap, None, Some}
use Rattle.pim_fragments.specs.Pieces.{piece_of}
use Rattle.pim_fragments.proofs.Taken.{finds}
use Rattle.pim_fragments.proofs.pieces.Pieces.find.Goals as goal

pub returns-in-None : goal.returns-in-None
returns-in-None c =
    finds (piece_of c.args.fragment c.args.bytes.now) c.self.inside.is_broken c.self.inside.held.entries c.args.self.now c.self.view_is c.requires None c.in-None.ensures.value

pub returns-in-Some : goal.returns-in-Some
returns-in-Some c =
    ap (λ same. Some same) c.are_same.ensures
    ∙ finds (piece_of c.args.fragment c.args.bytes.now) c.self.inside.is_broken c.self.inside.held.entries c.args.self.now c.self.view_is c.requires (Some c.in-Some.there.now) c.in-Some.ensures.value
