use Rattle.std.proofs.Common.{◌∙◌, sym, ap, List}
use Rattle.std.specs.Prelude.{Option, is_some}
use Rattle.pim_fragments.specs.Pieces.{Piece, piece_of, taken}
use Rattle.pim_fragments.proofs.Places.{some_seen}
use Rattle.pim_fragments.proofs.Moments.{is_kept, leaves}
use Rattle.pim_fragments.specs.declared.fragments.PartialPacket.{PartialPacket}
use Rattle.pim_fragments.proofs.fragments.Fragments.begin.Goals as goal
use Rattle.pim_fragments.proofs.fragments.Fragments.begin.Goals.{then-is_some, else-is_some}

pub returns-clause-kept : goal.returns-clause-kept
returns-clause-kept g c =
    let piece = piece_of c.args.fragment c.args.bytes.now in
    let held_is = c.in_ok-whole.ensures.held ∙ ap (λ (h : Option (List Piece)). (taken piece h).held) c.new-pieces.ensures in
    let same = ap is_some (sym (c.in_ok-whole.ensures.whole ∙ ap (λ (h : Option (List Piece)). (taken piece h).whole) c.new-pieces.ensures)) ∙ some_seen c.in_ok-whole.whole ∙ sym c.is_some.ensures in
    elim c.if-is_some.branch [
      | then-is_some w ↦ w.self-is
          ∙ ap (λ (ps : List (PartialPacket g.row.K.Denot)). record { packets = ps; gone = c.keep_most-self-inside.result }) w.remove_last.ensures
          ∙ leaves piece c.args.key c.args.record c.args.moment _ c.args.self.now c.self.view_is c.self.invariant c.take.new.self held_is
          c.push.new.self.items c.remove_over.new.packets.items c.keep_most-self-inside.new.packets.items c.with_over-self-inside.result c.keep_most-self-inside.result
          c.in_ok-push.ensures.items c.with_over-self-inside.ensures c.remove_over.ensures.kept c.keep_most-self-inside.ensures.packets c.keep_most-self-inside.ensures.gone (same ∙ w.if-is_some.true)
      | else-is_some w ↦ w.self-is
          ∙ is_kept piece c.args.key c.args.record c.args.moment _ c.args.self.now c.self.view_is c.self.invariant c.take.new.self held_is
          c.push.new.self.items c.remove_over.new.packets.items c.keep_most-self-inside.new.packets.items c.with_over-self-inside.result c.keep_most-self-inside.result
          c.in_ok-push.ensures.items c.with_over-self-inside.ensures c.remove_over.ensures.kept c.keep_most-self-inside.ensures.packets c.keep_most-self-inside.ensures.gone (same ∙ w.if-is_some.false)
    ]
