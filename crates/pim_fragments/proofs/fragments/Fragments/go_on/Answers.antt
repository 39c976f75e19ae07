use Rattle.std.proofs.Common.{◌∙◌, sym, ap, rules, List}
use Rattle.std.specs.Prelude.{is_some}
use Rattle.pim_fragments.specs.Pieces.{piece_of}
use Rattle.pim_fragments.specs.declared.fragments.PartialPacket.{PartialPacket}
use Rattle.pim_fragments.specs.Packets.{Kept}
use Rattle.pim_fragments.specs.Places.{whole_at, kept_at, is_added_at}
use Rattle.pim_fragments.proofs.Places.{on_err, added_there, some_seen, whole_there, stays_there, leaves_there}
use Rattle.pim_fragments.proofs.fragments.Fragments.go_on.Goals as goal
use Rattle.pim_fragments.proofs.fragments.Fragments.go_on.Goals.{then-is_some, else-is_some}

pub returns-clause-whole : goal.returns-clause-whole
returns-clause-whole g c =
    let piece = piece_of c.args.fragment c.args.bytes.now in
    c.in_ok-whole.ensures.whole ∙ whole_there piece c.self.inside.packets.items c.args.place c.index_mut.result.now (search rules) c.index_mut.ensures.value
    ∙ ap (λ (k : Kept g.row.K.Denot). whole_at piece c.args.place k.packets) c.self.view_is

pub returns-clause-kept : goal.returns-clause-kept
returns-clause-kept g c =
    let piece = piece_of c.args.fragment c.args.bytes.now in
    let same = ap is_some (sym c.in_ok-whole.ensures.whole) ∙ some_seen c.in_ok-whole.whole ∙ sym c.is_some.ensures in
    elim c.if-is_some.branch [
      | then-is_some w ↦ w.self-is ∙ ap (λ (ps : List (PartialPacket g.row.K.Denot)). record { packets = ps; gone = c.self.inside.gone })
          (w.remove-packet.ensures.items ∙ leaves_there piece c.self.inside.packets.items c.args.place c.index_mut.result.now _ (search rules) c.index_mut.ensures.value (same ∙ w.if-is_some.true))
          ∙ ap (kept_at piece c.args.place) c.self.view_is
      | else-is_some w ↦ w.self-is ∙ ap (λ (ps : List (PartialPacket g.row.K.Denot)). record { packets = ps; gone = c.self.inside.gone })
          (stays_there piece c.self.inside.packets.items c.args.place c.index_mut.result.now c.take.new.self (search rules) c.index_mut.ensures.value c.in_ok-whole.ensures.held (same ∙ w.if-is_some.false))
          ∙ ap (kept_at piece c.args.place) c.self.view_is
    ]

pub returns-in_err-whole-clause-lacking : goal.returns-in_err-whole-clause-lacking
returns-in_err-whole-clause-lacking g c =
    let piece = piece_of c.args.fragment c.args.bytes.now in
    on_err c.from_residual.result _ (ap (λ (k : Kept g.row.K.Denot). is_added_at piece c.args.place k.packets) (sym c.self.view_is)
    ∙ sym (added_there piece c.self.inside.packets.items c.args.place c.index_mut.result.now (search rules) c.index_mut.ensures.value) ∙ c.in_err-whole.ensures.lacking)
