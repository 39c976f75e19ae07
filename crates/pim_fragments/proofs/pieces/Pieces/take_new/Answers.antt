use Rattle.std.proofs.Common.{◌∙◌, sym}
use Rattle.pim_fragments.specs.Pieces.{piece_of}
use Rattle.pim_fragments.proofs.Taken.{still_theirs, seen_as_before, theirs_as_before}
use Rattle.pim_fragments.proofs.pieces.Pieces.take_new.Goals as goal

pub invariant_of-self-2 : goal.invariant_of-self-2
invariant_of-self-2 c =
    still_theirs (piece_of c.args.fragment c.args.bytes.now) c.self.inside.held.entries c.keep.new.held.entries c.self.inside.size c.self.inside.end c.end_with-self-inside.result c.self.invariant
    c.in_ok-keep.ensures.kept (sym c.is_breaking.ensures.breaks ∙ c.if-is_breaking.false) c.end_with-self-inside.ensures

pub invariant_of-self-in-Err : goal.invariant_of-self-in-Err
invariant_of-self-in-Err c =
    theirs_as_before (piece_of c.args.fragment c.args.bytes.now) c.self.inside.is_broken c.self-2.inside.is_broken c.self.inside.held.entries c.keep.new.held.entries c.self-2.inside.held.entries c.remove.new.self.entries
    c.args.self.now c.settle.new.self c.self.view_is c.requires c.in_ok-keep.ensures.kept c.self-2.view_is c.in-Err.ensures.refused c.remove.ensures.entries c.self.inside.size c.self.inside.end c.self.invariant

pub returns-in-Err-clause-refused : goal.returns-in-Err-clause-refused
returns-in-Err-clause-refused c =
    seen_as_before (piece_of c.args.fragment c.args.bytes.now) c.self.inside.is_broken c.self-2.inside.is_broken c.self.inside.held.entries c.keep.new.held.entries c.self-2.inside.held.entries c.remove.new.self.entries
    c.args.self.now c.settle.new.self c.self.view_is c.requires c.in_ok-keep.ensures.kept c.self-2.view_is c.in-Err.ensures.refused c.remove.ensures.entries
