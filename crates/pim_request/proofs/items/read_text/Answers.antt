use Rattle.pim_request.proofs.Cited.{◌≡◌, ◌∙◌, sym, refl, arith, rules, IfSome, coming_lines, bytes_left, HasRead}
use Rattle.pim_request.proofs.Cited.{Lacks, NoFeed, has_send}
use Rattle.pim_request.proofs.Devices.{on_err, if_known, at_value, where_known, proceeds_on, gave_less, gave_passed}
use Rattle.pim_request.proofs.Itemized.{at_known, given_none, given_some, known_line, text_sent, text_ended, text_goes_on, unsent_passed}
use Rattle.pim_request.proofs.Whole.{no_send, nothing_passed, text_passes, taken_cut, line_taken, none_taken, known_taken, begun_at_once, more_at_once, feed_pends, after_passed, send_ends, read_after, read_none}
use Rattle.pim_request.proofs.items.read_text.Goals as goal

pub returns-in_default-clause-text : goal.returns-in_default-clause-text
returns-in_default-clause-text g c =
    where_known (coming_lines c.args.input.now) (λ bytes continues begun unsent holds.
    let going = continues begun unsent holds in
    let over = given_none going.later c.in_ok-found.found c.next_line.new.self c.in_default.not-Some
    (at_known (coming_lines c.loop-found.input) going.later c.in_ok-found.found c.next_line.new.self going.coming c.in_ok-found.ensures.line) in
    text_ended begun bytes c.loop-found.input c.next_line.new.self c.loop-found.held going over.0 over.1) c.loop-found.invariant.continues

pub returns-then-ends_text-clause-text : goal.returns-then-ends_text-clause-text
returns-then-ends_text-clause-text g c =
    where_known (coming_lines c.args.input.now) (λ bytes continues begun unsent holds.
    let going = continues begun unsent holds in
    let is = given_some going.later c.in_ok-found.found c.in-Some.found c.next_line.new.self c.in-Some.is
    (at_known (coming_lines c.loop-found.input) going.later c.in_ok-found.found c.next_line.new.self going.coming c.in_ok-found.ensures.line) in
    text_sent begun bytes c.in-Some.found c.loop-found.input c.next_line.new.self c.loop-found.held going is
    (sym (c.ends_text.ensures is.whole (known_line c.line.result.now going.later c.in-Some.found c.next_line.new.self is c.line.ensures.line)) ∙ c.if-ends_text.true))
    c.loop-found.invariant.continues

pub loop-found-preserved : goal.loop-found-preserved
loop-found-preserved g c = record {
  at_once = λ has.
      let before = c.loop-found.invariant.at_once has in
      let takes = c.in_ok-found.ensures.at_once (feed_pends has_send c.args.answers.now c.loop-found.answers c.args.input.now c.loop-found.input no_send has before) in
      let taken = line_taken c.loop-found.input.pending c.in_ok-found.found c.in-Some.found c.next_line.new.self c.in-Some.is takes.0 in
      more_at_once has_send c.args.answers.now c.loop-found.answers c.next_line.new.answers c.args.input.now c.loop-found.input c.next_line.new.self before takes.1 takes.2
      (text_passes c.loop-found.input.pending taken.whole c.next_line.new.self.pending (taken_cut c.loop-found.input.pending c.in-Some.found c.next_line.new.self taken)
      (sym (c.ends_text.ensures taken.whole (known_taken c.line.result.now c.loop-found.input.pending c.in-Some.found c.next_line.new.self taken c.line.ensures.line)) ∙ c.if-ends_text.false));
  lines = where_known (coming_lines c.args.input.now) (λ bytes passed.
      let is = given_some passed.later c.in_ok-found.found c.in-Some.found c.next_line.new.self c.in-Some.is
      (at_known (coming_lines c.loop-found.input) passed.later c.in_ok-found.found c.next_line.new.self passed.coming c.in_ok-found.ensures.line) in
      unsent_passed bytes c.in-Some.found c.loop-found.input c.next_line.new.self passed is
      (sym (c.ends_text.ensures is.whole (known_line c.line.result.now passed.later c.in-Some.found c.next_line.new.self is c.line.ensures.line)) ∙ c.if-ends_text.false))
      c.loop-found.invariant.lines;
  continues = where_known (coming_lines c.args.input.now) (λ bytes continues begun unsent holds.
      let going = continues begun unsent holds in
      let is = given_some going.later c.in_ok-found.found c.in-Some.found c.next_line.new.self c.in-Some.is
      (at_known (coming_lines c.loop-found.input) going.later c.in_ok-found.found c.next_line.new.self going.coming c.in_ok-found.ensures.line) in
      text_goes_on begun bytes c.in-Some.found c.loop-found.input c.next_line.new.self c.loop-found.held c.add.new.self going is
      (sym (c.ends_text.ensures is.whole (known_line c.line.result.now going.later c.in-Some.found c.next_line.new.self is c.line.ensures.line)) ∙ c.if-ends_text.false)
      (c.add.ensures going.text is.whole (known_line c.line-in-loop-found.result.now going.later c.in-Some.found c.next_line.new.self is c.line-in-loop-found.ensures.line) going.holds))
      c.loop-found.invariant.continues;
  left = omega (arith, gave_less c.in_ok-found.found c.in-Some.found (bytes_left c.loop-found.input) (bytes_left c.next_line.new.self) c.in-Some.is c.in_ok-found.ensures.left, c.loop-found.invariant.left);
  proceeds = proceeds_on g.W.Drain.contents g.W.Answers.passed_on g.W.Drain.failures c.args.answers.now c.loop-found.answers c.next_line.new.answers c.args.input.now c.loop-found.input c.next_line.new.self
      c.loop-found.invariant.proceeds c.in_ok-found.ensures.reads c.in_ok-found.ensures.output c.in_ok-found.ensures.contents
      (gave_passed c.in_ok-found.found c.in-Some.found ((c.next_line.new.answers ≡ c.loop-found.answers) × (c.next_line.new.self.unread ≡ c.loop-found.input.unread))
      (g.W.Answers.passed_on c.next_line.new.answers ≡ g.W.Drain.contents c.next_line.new.answers) c.in-Some.is c.in_ok-found.ensures.passed);
}

pub loop-found-init : goal.loop-found-init
loop-found-init g c = record {
  at_once = λ has. begun_at_once has_send c.args.answers.now c.args.input.now;
  lines = if_known (coming_lines c.args.input.now) (λ bytes coming. record { later = bytes; coming = coming; passes = nothing_passed has_send bytes });
  continues = if_known (coming_lines c.args.input.now) (λ bytes coming begun unsent holds. record { text = begun; later = bytes; coming = coming; items = refl; unsent = unsent; holds = holds });
  left = omega arith;
  proceeds = search rules;
}

pub returns-in_err-found-clause-at_once : goal.returns-in_err-found-clause-at_once
returns-in_err-found-clause-at_once g c = λ has.
    absurd (c.in_err-found.ensures.at_once (feed_pends has_send c.args.answers.now c.loop-found.answers c.args.input.now c.loop-found.input no_send has (c.loop-found.invariant.at_once has))).0

pub returns-in_err-found-clause-early : goal.returns-in_err-found-clause-early
returns-in_err-found-clause-early g c =
    on_err (IfSome (coming_lines c.args.input.now) (λ bytes. HasRead bytes (Lacks has_send) c.next_line.new.self)) c.from_residual.result
    (where_known (coming_lines c.args.input.now) (λ bytes passed.
    read_after has_send has_send bytes passed.later c.next_line.new.self passed.passes
    (read_none has_send passed.later c.next_line.new.self no_send
    (at_value (λ later. HasRead later NoFeed c.next_line.new.self) (coming_lines c.loop-found.input) passed.later passed.coming c.in_err-found.ensures.early))) c.loop-found.invariant.lines)

pub returns-in_default-clause-at_once : goal.returns-in_default-clause-at_once
returns-in_default-clause-at_once g c = λ has.
    let takes = c.in_ok-found.ensures.at_once (feed_pends has_send c.args.answers.now c.loop-found.answers c.args.input.now c.loop-found.input no_send has (c.loop-found.invariant.at_once has)) in
    absurd (none_taken c.loop-found.input.pending c.in_ok-found.found c.next_line.new.self c.in_default.not-Some takes.0)

pub returns-then-ends_text-clause-at_once : goal.returns-then-ends_text-clause-at_once
returns-then-ends_text-clause-at_once g c = λ has.
    let before = c.loop-found.invariant.at_once has in
    let takes = c.in_ok-found.ensures.at_once (feed_pends has_send c.args.answers.now c.loop-found.answers c.args.input.now c.loop-found.input no_send has before) in
    let taken = line_taken c.loop-found.input.pending c.in_ok-found.found c.in-Some.found c.next_line.new.self c.in-Some.is takes.0 in
    let send = sym (c.ends_text.ensures taken.whole (known_taken c.line.result.now c.loop-found.input.pending c.in-Some.found c.next_line.new.self taken c.line.ensures.line)) ∙ c.if-ends_text.true in (
      refl,
      after_passed has_send has_send c.args.input.now.pending c.loop-found.input.pending c.next_line.new.self.pending before.passes (send_ends c.loop-found.input.pending c.in-Some.found c.next_line.new.self taken send),
      takes.1 ∙ before.output,
      takes.2 ∙ before.unread,
    )
