use Rattle.pim_request.proofs.Cited.{◌≡◌, sym, subst, true, false, ◌||◌, HoldsText}
use Rattle.pim_request.proofs.Held.{added, not_added}
use Rattle.pim_request.proofs.held_text.HeldText.add.Goals as goal
use Rattle.pim_request.proofs.held_text.HeldText.add.Goals.{then-self-via-then-self, then-self-via-else-self+then-self-2}

pub returns-then-self : goal.returns-then-self
returns-then-self c = λ text whole known holds.
    let cause : (c.self.inside.has_long_line || c.args.too_long) ≡ false → c.self.inside.is_too_long ≡ true =
    elim c.then-self.branch [ then-self-via-then-self w ↦ λ short. absurd cc | then-self-via-else-self+then-self-2 w ↦ λ short. cc ] in
    not_added text c.args.line.now whole c.args.too_long _ known (subst (HoldsText text) (sym c.self.view_is) holds) cause

pub returns : goal.returns
returns c = λ text whole known holds.
    added text c.args.line.now whole c.keep_line-self-inside.new.text.items c.args.too_long c.keep_line-self-inside.result _ known (subst (HoldsText text) (sym c.self.view_is) holds) c.if-self-2.false
    c.keep_line-self-inside.ensures.kept c.keep_line-self-inside.ensures.short
