use Rattle.pim_request.proofs.Cited.{◌≡◌, ◌∙◌, sym, ap, refl, [], IfSome, false≢true, has_item, Reading, EndsEarly}
use Rattle.pim_request.proofs.Cited.{coming_lines, reading_seen}
use Rattle.pim_request.proofs.Devices.{on_err, if_known}
use Rattle.pim_request.proofs.Whole.{no_item, empty}
use Rattle.pim_request.proofs.items.InputItems.next.Goals as goal

pub returns-then-self-clause-at_once : goal.returns-then-self-clause-at_once
returns-then-self-clause-at_once g c = λ has.
    let none : c.args.self.now.pending ≡ [] = ap (λ (reading : Reading). reading.pending) (sym c.self.view_is) ∙ c.self.invariant c.if-self.true in
    absurd (false≢true (sym (ap has_item none ∙ no_item [] empty) ∙ has))

pub returns-then-self-clause-early : goal.returns-then-self-clause-early
returns-then-self-clause-early g c =
    on_err (IfSome c.args.self.now.coming (λ bytes. EndsEarly bytes (reading_seen c.end_again.new.input c.self.inside.held c.self.inside.has_stopped))) c.end_again.result
    (if_known c.args.self.now.coming (λ bytes coming. record {
      read = [];
      rest = bytes;
      all = refl;
      none = no_item [] empty;
      coming = ap coming_lines c.end_again.ensures.input ∙ ap (λ (reading : Reading). reading.coming) c.self.view_is ∙ coming;
    }))
