use Rattle.pim_request.proofs.Cited.{false, sym, subst, List, ℕ, text_after, HoldsText}
use Rattle.pim_request.proofs.Held.{begun}
use Rattle.pim_request.proofs.held_text.HeldText.begin.Goals as goal

pub returns : goal.returns
returns c = λ head known.
    subst (λ (bytes : List ℕ). HoldsText (text_after head) (record { from_line = c.hold_line.new.held.items; bytes = bytes; has_long_line = c.args.too_long; is_too_long = false }))
    (sym c.clear.ensures.items) (begun head c.args.line.now c.hold_line.new.held.items c.args.too_long known c.hold_line.ensures.held)
