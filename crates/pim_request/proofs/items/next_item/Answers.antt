use Rattle.pim_request.proofs.Cited.{◌∙◌, sym, false, IfSome, false≢true, has_item, coming_lines, HasRead, Lacks}
use Rattle.pim_request.proofs.Cited.{reading_seen, has_send}
use Rattle.pim_request.proofs.Devices.{on_err, where_known}
use Rattle.pim_request.proofs.FirstItem.{some_given, is_line, is_long_line, is_text}
use Rattle.pim_request.proofs.Whole.{some_taken, text_begun, text_read, still_has, after_passed, line_ends}
use Rattle.pim_request.proofs.items.next_item.Goals as goal

pub returns-then-is_from-clause-item : goal.returns-then-is_from-clause-item
returns-then-is_from-clause-item g c =
    where_known (coming_lines c.args.input.now) (λ bytes gives.
    is_text bytes c.in-Some.found c.next_line.new.input c.in_ok-item.item (reading_seen c.take_text.new.input c.take_text.new.held false)
    (some_given bytes c.in_ok-found.found c.in-Some.found c.next_line.new.input c.in-Some.is gives)
    (c.is_from.ensures.yes c.if-is_from.true) c.in_ok-item.ensures.item) c.in_ok-found.ensures.line

pub returns-then-found-clause-item : goal.returns-then-found-clause-item
returns-then-found-clause-item g c =
    where_known (coming_lines c.args.input.now) (λ bytes gives.
    let some = some_given bytes c.in_ok-found.found c.in-Some.found c.next_line.new.input c.in-Some.is gives in
    is_long_line bytes c.in-Some.found c.next_line.new.input c.args.held.now some
    (c.is_from.ensures.no c.if-is_from.false some.sort) c.if-found.true) c.in_ok-found.ensures.line

pub returns-clause-item : goal.returns-clause-item
returns-clause-item g c =
    where_known (coming_lines c.args.input.now) (λ bytes gives.
    let some = some_given bytes c.in_ok-found.found c.in-Some.found c.next_line.new.input c.in-Some.is gives in
    is_line bytes c.in-Some.found c.next_line.new.input c.args.held.now some
    (c.is_from.ensures.no c.if-is_from.false some.sort) c.if-found.false) c.in_ok-found.ensures.line

pub returns-in_err-item-clause-at_once : goal.returns-in_err-item-clause-at_once
returns-in_err-item-clause-at_once g c = λ has.
    let takes = c.in_ok-found.ensures.at_once has in
    let passes = text_begun c.args.input.now.pending c.in-Some.found c.next_line.new.input (some_taken c.args.input.now.pending c.in_ok-found.found c.in-Some.found c.next_line.new.input c.in-Some.is takes.0)
    (c.is_from.ensures.yes c.if-is_from.true) in
    absurd (false≢true (c.in_err-item.ensures.at_once (still_has has_item has_send c.args.input.now.pending c.next_line.new.input.pending passes has)).0)

pub returns-in_err-item-clause-early : goal.returns-in_err-item-clause-early
returns-in_err-item-clause-early g c =
    on_err (IfSome (coming_lines c.args.input.now) (λ bytes. HasRead bytes (Lacks has_item) c.take_text.new.input)) c.from_residual-in_err-item.result
    (where_known (coming_lines c.args.input.now) (λ bytes gives.
    text_read bytes c.in-Some.found c.next_line.new.input c.take_text.new.input (some_given bytes c.in_ok-found.found c.in-Some.found c.next_line.new.input c.in-Some.is gives)
    (c.is_from.ensures.yes c.if-is_from.true) c.in_err-item.ensures.early) c.in_ok-found.ensures.line)

pub returns-then-is_from-clause-at_once : goal.returns-then-is_from-clause-at_once
returns-then-is_from-clause-at_once g c = λ has.
    let takes = c.in_ok-found.ensures.at_once has in
    let passes = text_begun c.args.input.now.pending c.in-Some.found c.next_line.new.input (some_taken c.args.input.now.pending c.in_ok-found.found c.in-Some.found c.next_line.new.input c.in-Some.is takes.0)
    (c.is_from.ensures.yes c.if-is_from.true) in
    let ends = c.in_ok-item.ensures.at_once (still_has has_item has_send c.args.input.now.pending c.next_line.new.input.pending passes has) in (
      tt,
      after_passed has_item has_send c.args.input.now.pending c.next_line.new.input.pending c.take_text.new.input.pending passes ends.1,
      ends.2 ∙ takes.1,
      ends.3 ∙ takes.2,
    )

pub returns-then-found-clause-at_once : goal.returns-then-found-clause-at_once
returns-then-found-clause-at_once g c = λ has.
    let takes = c.in_ok-found.ensures.at_once has in
    let some = some_taken c.args.input.now.pending c.in_ok-found.found c.in-Some.found c.next_line.new.input c.in-Some.is takes.0 in (
      tt,
      after_passed has_item has_item c.args.input.now.pending some.later c.next_line.new.input.pending some.passes
          (line_ends some.later c.in-Some.found c.next_line.new.input some.is (sym some.is.sort ∙ c.is_from.ensures.no c.if-is_from.false some.sort)),
      takes.1,
      takes.2,
    )

pub returns-clause-at_once : goal.returns-clause-at_once
returns-clause-at_once g c = λ has.
    let takes = c.in_ok-found.ensures.at_once has in
    let some = some_taken c.args.input.now.pending c.in_ok-found.found c.in-Some.found c.next_line.new.input c.in-Some.is takes.0 in (
      tt,
      after_passed has_item has_item c.args.input.now.pending some.later c.next_line.new.input.pending some.passes
          (line_ends some.later c.in-Some.found c.next_line.new.input some.is (sym some.is.sort ∙ c.is_from.ensures.no c.if-is_from.false some.sort)),
      takes.1,
      takes.2,
    )
