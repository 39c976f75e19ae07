use Rattle.pim_request.proofs.Cited.{◌≡◌, ◌∙◌, sym, ap, arith, rules, refl, IfSome, items_of, has_item, coming_lines}
use Rattle.pim_request.proofs.Cited.{bytes_left, HasRead, Lacks, NoFeed}
use Rattle.pim_request.proofs.Devices.{on_err, if_known, at_value, where_known, proceeds_on, gave_less, gave_passed}
use Rattle.pim_request.proofs.Itemized.{at_known, given_none, given_some, blank_passed, no_items}
use Rattle.pim_request.proofs.Whole.{no_item, nothing_passed, blank_passes, taken_cut, line_taken, none_taken, begun_at_once, more_at_once, feed_pends, read_after, read_none}
use Rattle.pim_request.proofs.items.next_line.Goals as goal

pub returns-in_default-clause-line : goal.returns-in_default-clause-line
returns-in_default-clause-line g c =
    where_known (coming_lines c.args.input.now) (λ bytes same.
    let over = given_none same.later c.in_ok-found.found c.next_line.new.self c.in_default.not-Some
    (at_known (coming_lines c.loop-found.input) same.later c.in_ok-found.found c.next_line.new.self same.coming c.in_ok-found.ensures.line) in
    (same.items ∙ ap items_of over.0 ∙ no_items, over.1)) c.loop-found.invariant.same

pub loop-found-preserved : goal.loop-found-preserved
loop-found-preserved g c = record {
  at_once = λ has.
      let before = c.loop-found.invariant.at_once has in
      let takes = c.in_ok-found.ensures.at_once (feed_pends has_item c.args.answers.now c.loop-found.answers c.args.input.now c.loop-found.input no_item has before) in
      let taken = line_taken c.loop-found.input.pending c.in_ok-found.found c.in-Some.found c.next_line.new.self c.in-Some.is takes.0 in
      more_at_once has_item c.args.answers.now c.loop-found.answers c.next_line.new.answers c.args.input.now c.loop-found.input c.next_line.new.self before takes.1 takes.2
      (blank_passes c.loop-found.input.pending taken.whole c.next_line.new.self.pending (taken_cut c.loop-found.input.pending c.in-Some.found c.next_line.new.self taken)
      (sym taken.sort ∙ c.is_blank.ensures.yes c.if-not-is_blank.false));
  same = where_known (coming_lines c.args.input.now) (λ bytes same.
      blank_passed bytes c.in-Some.found c.loop-found.input c.next_line.new.self same
      (given_some same.later c.in_ok-found.found c.in-Some.found c.next_line.new.self c.in-Some.is
      (at_known (coming_lines c.loop-found.input) same.later c.in_ok-found.found c.next_line.new.self same.coming c.in_ok-found.ensures.line))
      (c.is_blank.ensures.yes c.if-not-is_blank.false)) c.loop-found.invariant.same;
  left = omega (arith, gave_less c.in_ok-found.found c.in-Some.found (bytes_left c.loop-found.input) (bytes_left c.next_line.new.self) c.in-Some.is c.in_ok-found.ensures.left, c.loop-found.invariant.left);
  proceeds = proceeds_on g.W.Drain.contents g.W.Answers.passed_on g.W.Drain.failures c.args.answers.now c.loop-found.answers c.next_line.new.answers c.args.input.now c.loop-found.input c.next_line.new.self
      c.loop-found.invariant.proceeds c.in_ok-found.ensures.reads c.in_ok-found.ensures.output c.in_ok-found.ensures.contents
      (gave_passed c.in_ok-found.found c.in-Some.found ((c.next_line.new.answers ≡ c.loop-found.answers) × (c.next_line.new.self.unread ≡ c.loop-found.input.unread))
      (g.W.Answers.passed_on c.next_line.new.answers ≡ g.W.Drain.contents c.next_line.new.answers) c.in-Some.is c.in_ok-found.ensures.passed);
}

pub loop-found-init : goal.loop-found-init
loop-found-init g c = record {
  at_once = λ has. begun_at_once has_item c.args.answers.now c.args.input.now;
  same = if_known (coming_lines c.args.input.now) (λ bytes coming. record { later = bytes; passes = nothing_passed has_item bytes; coming = coming; items = refl });
  left = omega arith;
  proceeds = search rules;
}

pub returns-in_err-found-clause-at_once : goal.returns-in_err-found-clause-at_once
returns-in_err-found-clause-at_once g c = λ has.
    absurd (c.in_err-found.ensures.at_once (feed_pends has_item c.args.answers.now c.loop-found.answers c.args.input.now c.loop-found.input no_item has (c.loop-found.invariant.at_once has))).0

pub returns-in_err-found-clause-early : goal.returns-in_err-found-clause-early
returns-in_err-found-clause-early g c =
    on_err (IfSome (coming_lines c.args.input.now) (λ bytes. HasRead bytes (Lacks has_item) c.next_line.new.self)) c.from_residual.result
    (where_known (coming_lines c.args.input.now) (λ bytes same.
    read_after has_item has_item bytes same.later c.next_line.new.self same.passes
    (read_none has_item same.later c.next_line.new.self no_item
    (at_value (λ later. HasRead later NoFeed c.next_line.new.self) (coming_lines c.loop-found.input) same.later same.coming c.in_err-found.ensures.early))) c.loop-found.invariant.same)

pub returns-in_default-clause-at_once : goal.returns-in_default-clause-at_once
returns-in_default-clause-at_once g c = λ has.
    let takes = c.in_ok-found.ensures.at_once (feed_pends has_item c.args.answers.now c.loop-found.answers c.args.input.now c.loop-found.input no_item has (c.loop-found.invariant.at_once has)) in
    absurd (none_taken c.loop-found.input.pending c.in_ok-found.found c.next_line.new.self c.in_default.not-Some takes.0)

pub returns-then-not-is_blank-clause-at_once : goal.returns-then-not-is_blank-clause-at_once
returns-then-not-is_blank-clause-at_once g c = λ has.
    let before = c.loop-found.invariant.at_once has in
    let takes = c.in_ok-found.ensures.at_once (feed_pends has_item c.args.answers.now c.loop-found.answers c.args.input.now c.loop-found.input no_item has before) in (
      record {
        later = c.loop-found.input.pending;
        passes = before.passes;
        is = line_taken c.loop-found.input.pending c.in_ok-found.found c.in-Some.found c.next_line.new.self c.in-Some.is takes.0;
        sort = c.is_blank.ensures.no c.if-not-is_blank.true;
      },
      takes.1 ∙ before.output,
      takes.2 ∙ before.unread,
    )
