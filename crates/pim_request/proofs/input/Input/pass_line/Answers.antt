use Rattle.pim_request.proofs.Cited.{◌≡◌, ◌∙◌, sym, ap, subst, inr, ℕ, ◌+◌, List, [], length, drop, arith, drop_all}
use Rattle.pim_request.proofs.Cited.{Lines, Passing}
use Rattle.pim_request.proofs.Devices.{where_known, proceeds_on}
use Rattle.pim_request.proofs.Passed.{passing_more, passing_end, passing_found}
use Rattle.pim_request.proofs.input.Input.pass_line.Goals as goal

-- all bytes that were read are passed over
cleared : (head passed : Lines) (bytes : List ℕ) → bytes ≡ head.pending → passed ≡ record { line = head.line; pending = drop (length bytes) head.pending; remaining = head.remaining; unread = head.unread; failures = head.failures } → passed.pending ≡ []
cleared head passed bytes all is = ap (λ (lines : Lines). lines.pending) is ∙ drop_all (length bytes) head.pending (omega (arith, ap length all))

same_failures : (head passed read found : Lines) → passed.failures ≡ head.failures → read.failures ≡ passed.failures → found ≡ read → found.failures ≡ head.failures
same_failures head passed read found passes reads finds = ap (λ (lines : Lines). lines.failures) finds ∙ reads ∙ passes

pub returns-then-branch-eq0-clause-passed_over : goal.returns-then-branch-eq0-clause-passed_over
returns-then-branch-eq0-clause-passed_over g c =
    where_known c.args.self.now.remaining (λ bytes passing. passing_end bytes c.loop-self.self c.pass.new.self c.fill.new.self c.in_ok-fill.field-0 passing
    (cleared c.loop-self.self c.pass.new.self c.pending.result.now c.pending.ensures.bytes c.pass.ensures) (ap (λ (lines : Lines). lines.remaining) c.pass.ensures)
    c.in_ok-fill.ensures.more c.if-branch-eq0.true) c.loop-self.invariant.passing

pub returns-in-Some-clause-passed_over : goal.returns-in-Some-clause-passed_over
returns-in-Some-clause-passed_over g c =
    where_known c.args.self.now.remaining (λ bytes passing. passing_found bytes c.loop-self.self c.pass.new.self c.fill.new.self c.pass-in-Some.new.self c.in_ok-fill.field-0 c.in-Some.place passing
    (cleared c.loop-self.self c.pass.new.self c.pending.result.now c.pending.ensures.bytes c.pass.ensures) (ap (λ (lines : Lines). lines.remaining) c.pass.ensures)
    c.in_ok-fill.ensures.more c.in-Some.ensures.found
    (c.pass-in-Some.ensures ∙ ap (λ (lines : Lines). record { line = lines.line; pending = drop (c.in-Some.place + 1) lines.pending; remaining = lines.remaining; unread = lines.unread; failures = lines.failures }) c.in-Some.ensures.same))
    c.loop-self.invariant.passing

pub loop-self-preserved : goal.loop-self-preserved
loop-self-preserved g c =
    let before = c.loop-self.invariant in
    let fill = c.in_ok-fill.ensures in
    let same = c.in_default.ensures.same in
    record {
      passing = where_known c.args.self.now.remaining (λ bytes passing. subst (Passing bytes) (sym same)
          (passing_more bytes c.loop-self.self c.pass.new.self c.fill.new.self c.in_ok-fill.field-0 passing
          (cleared c.loop-self.self c.pass.new.self c.pending.result.now c.pending.ensures.bytes c.pass.ensures) (ap (λ (lines : Lines). lines.remaining) c.pass.ensures)
          fill.more c.in_default.ensures.found)) before.passing;
      left = omega (arith, before.left, fill.more.unread, ap (λ (lines : Lines). lines.unread) same, ap (λ (lines : Lines). lines.unread) c.pass.ensures);
      proceeds = proceeds_on g.W.Drain.contents g.W.Answers.passed_on g.W.Drain.failures c.args.answers.now c.loop-self.answers c.fill.new.answers c.args.self.now c.loop-self.self c.find_feed.new.self
          before.proceeds (same_failures c.loop-self.self c.pass.new.self c.fill.new.self c.find_feed.new.self (ap (λ (lines : Lines). lines.failures) c.pass.ensures) fill.reads same) fill.output fill.contents (inr fill.passed);
    }
