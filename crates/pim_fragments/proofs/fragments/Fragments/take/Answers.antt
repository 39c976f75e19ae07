use Rattle.std.proofs.Common.{◌≡◌, ◌∙◌, sym, ap, subst, List, ℕ}
use Rattle.std.specs.Prelude.{Option, IfOk, OnOk, ◌&&◌, not}
use Rattle.pim_fragments.specs.Stored.{payload_seen}
use Rattle.pim_fragments.specs.Pieces.{piece_of}
use Rattle.pim_fragments.specs.declared.fragments.PartialPacket.{PartialPacket}
use Rattle.pim_fragments.specs.Packets.{Kept, is_over, passed}
use Rattle.pim_fragments.proofs.Moments.{asks_going_on, asks_beginning, goes_on, whole_going_on, begins, whole_beginning}
use Rattle.pim_fragments.proofs.Places.{on_err, IsFirst, AreNone, is_first, are_none}
use Rattle.pim_fragments.proofs.fragments.Fragments.take.Goals as goal

pub returns-in_default-clause-whole : goal.returns-in_default-clause-whole
returns-in_default-clause-whole g c =
    let test = λ (packet : PartialPacket g.row.K.Denot). g.K.PartialEq.eq packet.key c.args.key && not (is_over c.args.moment packet) in
    let none = subst (λ (k : Kept g.row.K.Denot). AreNone test k.packets) c.self.view_is (are_none test c.self.inside.packets.items (sym c.in_default.ensures)) in
    let whole = whole_beginning g.K.PartialEq.eq c.args.key c.args.moment (piece_of c.args.fragment c.args.bytes.now) c.args.self.now c.args.record none (g.met.K.Eq.laws.refl c.args.key) in
    subst (λ (w : Option (List ℕ)). IfOk c.begin.result (λ whole'. payload_seen whole' ≡ w)) whole c.begin.ensures.whole

pub returns-in_default-clause-kept : goal.returns-in_default-clause-kept
returns-in_default-clause-kept g c =
    let test = λ (packet : PartialPacket g.row.K.Denot). g.K.PartialEq.eq packet.key c.args.key && not (is_over c.args.moment packet) in
    let none = subst (λ (k : Kept g.row.K.Denot). AreNone test k.packets) c.self.view_is (are_none test c.self.inside.packets.items (sym c.in_default.ensures)) in
    let kept = begins g.K.PartialEq.eq c.args.key c.args.moment (piece_of c.args.fragment c.args.bytes.now) c.args.self.now c.args.record none (g.met.K.Eq.laws.refl c.args.key) in
    subst (λ (k : Kept g.row.K.Denot). OnOk c.begin.result (c.begin.new.self ≡ k)) kept c.begin.ensures.kept

pub returns-clause-whole : goal.returns-clause-whole
returns-clause-whole g c =
    let test = λ (packet : PartialPacket g.row.K.Denot). g.K.PartialEq.eq packet.key c.args.key && not (is_over c.args.moment packet) in
    let first = subst (λ (k : Kept g.row.K.Denot). IsFirst test k.packets c.in-Some.place) c.self.view_is (is_first test c.self.inside.packets.items c.in-Some.place (sym c.in-Some.ensures)) in
    c.in_ok-whole.ensures.whole ∙ whole_going_on g.K.PartialEq.eq c.args.key c.args.moment (piece_of c.args.fragment c.args.bytes.now) c.args.self.now c.in-Some.place c.args.record first

pub returns-clause-kept : goal.returns-clause-kept
returns-clause-kept g c =
    let test = λ (packet : PartialPacket g.row.K.Denot). g.K.PartialEq.eq packet.key c.args.key && not (is_over c.args.moment packet) in
    let first = subst (λ (k : Kept g.row.K.Denot). IsFirst test k.packets c.in-Some.place) c.self.view_is (is_first test c.self.inside.packets.items c.in-Some.place (sym c.in-Some.ensures)) in
    c.pass.ensures ∙ ap (passed c.args.moment) c.in_ok-whole.ensures.kept
    ∙ goes_on g.K.PartialEq.eq c.args.key c.args.moment (piece_of c.args.fragment c.args.bytes.now) c.args.self.now c.in-Some.place c.args.record first

pub returns-in_default-clause-lacking : goal.returns-in_default-clause-lacking
returns-in_default-clause-lacking g c =
    let test = λ (packet : PartialPacket g.row.K.Denot). g.K.PartialEq.eq packet.key c.args.key && not (is_over c.args.moment packet) in
    let none = subst (λ (k : Kept g.row.K.Denot). AreNone test k.packets) c.self.view_is (are_none test c.self.inside.packets.items (sym c.in_default.ensures)) in
    on_err c.begin.result _ (asks_beginning g.K.PartialEq.eq c.args.key c.args.moment (piece_of c.args.fragment c.args.bytes.now) c.args.self.now c.args.record none (g.met.K.Eq.laws.refl c.args.key))

pub returns-in_err-whole-clause-lacking : goal.returns-in_err-whole-clause-lacking
returns-in_err-whole-clause-lacking g c =
    let test = λ (packet : PartialPacket g.row.K.Denot). g.K.PartialEq.eq packet.key c.args.key && not (is_over c.args.moment packet) in
    let first = subst (λ (k : Kept g.row.K.Denot). IsFirst test k.packets c.in-Some.place) c.self.view_is (is_first test c.self.inside.packets.items c.in-Some.place (sym c.in-Some.ensures)) in
    on_err c.from_residual.result _ (sym (asks_going_on g.K.PartialEq.eq c.args.key c.args.moment (piece_of c.args.fragment c.args.bytes.now) c.args.self.now c.in-Some.place c.args.record first) ∙ c.in_err-whole.ensures.lacking)
