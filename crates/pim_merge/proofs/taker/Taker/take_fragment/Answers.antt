use Rattle.std.proofs.Common.{◌≡◌, ◌∙◌, ◌⊎◌, Ok, Err, Some, None, ap, subst, sym, inr, vec_capacity}
use Rattle.std.proofs.lemmas.Result.{err_from_is_err_and}
use Rattle.pim_addr.specs.Faults.{Answers}
use Rattle.pim_capture.specs.declared.fault.CaptureFault.TheVariants.{Memory}
use Rattle.pim_capture.specs.Capture.{skipped}
use Rattle.pim_capture.specs.Next.{event_seen}
use Rattle.pim_capture.specs.Seen.{ip_seen}
use Rattle.pim_fragments.specs.Stored.{payload_seen}
use Rattle.pim_merge.specs.Taker.{judged_by, untaken, untaken_why}
use Rattle.pim_merge.proofs.Takers.{fault_given, never_memory, if_memory, untaken_is, state_untaken, fragment_gives, fragment_holds}
use Rattle.pim_merge.proofs.Takers.{fragment_asks, fragment_longer, always}
use Rattle.pim_merge.proofs.taker.Taker.take_fragment.Goals as goal

pub returns-in_err-take_origin-clause-answer : goal.returns-in_err-take_origin-clause-answer
returns-in_err-take_origin-clause-answer c rest =
    let p = err_from_is_err_and c.from_residual.result c.from_residual.ensures.1 in
    let judged = judged_by c.args.self.now c.args.origin in
    rw (p.1, p.2) (inr (fault_given _ _ judged _ c.in_err-take_origin.ensures.answer))

pub returns-then-not-branch-clause-answer : goal.returns-then-not-branch-clause-answer
returns-then-not-branch-clause-answer c rest =
    inr (untaken_is _ (untaken c.args.self.now c.args.millis c.args.origin) (judged_by c.args.self.now c.args.origin)
    (c.in_ok-take_origin.ensures.answer ∙ ap Ok c.if-not-branch.true)
    ∙ ap (λ why. Ok (skipped c.args.millis why)) (sym (c.untaken_why-why.ensures
    ∙ ap (λ s. untaken_why s.choice c.args.origin) c.in_ok-take_origin.ensures.state)))

pub returns-then-not-branch-clause-state : goal.returns-then-not-branch-clause-state
returns-then-not-branch-clause-state c rest =
    c.in_ok-take_origin.ensures.state
    ∙ state_untaken _ _ (judged_by c.args.self.now c.args.origin)
    (c.in_ok-take_origin.ensures.answer ∙ ap Ok c.if-not-branch.true)

pub returns-in-Some-clause-answer : goal.returns-in-Some-clause-answer
returns-in-Some-clause-answer c rest =
    let state = c.args.self.now in
    let result = c.whole_event.result in
    subst (λ given. (result ≡ Err Memory) ⊎ Answers (event_seen c.whole_event.new.buffer.items) result given)
    (sym (fragment_gives state c.take_origin.new.self c.args.millis c.args.origin (ip_seen rest c.args.ip.now)
    c.args.fragment c.args.bytes.now c.key_of.result c.self.inside.place
    (c.in_ok-take_origin.ensures.answer ∙ ap Ok c.if-not-branch.false)
    c.in_ok-take_origin.ensures.state (c.key_of.ensures rest) (ap (λ s. s.place) c.self.view_is)
    (Some c.as_slice.result.now) (untaken state c.args.millis c.args.origin)
    (ap Some c.as_slice.ensures.value ∙ ap payload_seen (sym c.in-Some.is) ∙ c.in_ok-whole.ensures.whole)))
    (c.whole_event.ensures.answer rest)

pub returns-in-Some-clause-state : goal.returns-in-Some-clause-state
returns-in-Some-clause-state c rest =
    always c.whole_event.result
    (fragment_holds c.args.self.now c.take_origin.new.self c.args.millis c.args.origin (ip_seen rest c.args.ip.now)
    c.args.fragment c.args.bytes.now c.key_of.result c.self.inside.place
    (c.in_ok-take_origin.ensures.answer ∙ ap Ok c.if-not-branch.false)
    c.in_ok-take_origin.ensures.state (c.key_of.ensures rest) (ap (λ s. s.place) c.self.view_is)
    c.hold.new.self c.in_ok-whole.ensures.state)

pub returns-in-None-clause-answer : goal.returns-in-None-clause-answer
returns-in-None-clause-answer c rest =
    let state = c.args.self.now in
    inr (fragment_gives state c.take_origin.new.self c.args.millis c.args.origin (ip_seen rest c.args.ip.now)
    c.args.fragment c.args.bytes.now c.key_of.result c.self.inside.place
    (c.in_ok-take_origin.ensures.answer ∙ ap Ok c.if-not-branch.false)
    c.in_ok-take_origin.ensures.state (c.key_of.ensures rest) (ap (λ s. s.place) c.self.view_is)
    None (untaken state c.args.millis c.args.origin)
    (ap payload_seen (sym c.in-None.is) ∙ c.in_ok-whole.ensures.whole))

pub returns-in-None-clause-state : goal.returns-in-None-clause-state
returns-in-None-clause-state c rest =
    fragment_holds c.args.self.now c.take_origin.new.self c.args.millis c.args.origin (ip_seen rest c.args.ip.now)
    c.args.fragment c.args.bytes.now c.key_of.result c.self.inside.place
    (c.in_ok-take_origin.ensures.answer ∙ ap Ok c.if-not-branch.false)
    c.in_ok-take_origin.ensures.state (c.key_of.ensures rest) (ap (λ s. s.place) c.self.view_is)
    c.hold.new.self c.in_ok-whole.ensures.state

-- ---- refused memory

pub returns-in_err-take_origin-clause-memory : goal.returns-in_err-take_origin-clause-memory
returns-in_err-take_origin-clause-memory c rest =
    let p = err_from_is_err_and c.from_residual.result c.from_residual.ensures.1 in
    let judged = judged_by c.args.self.now c.args.origin in
    rw (p.1, p.2) (never_memory judged _ _ c.in_err-take_origin.ensures.answer)

pub returns-in_err-whole-clause-memory : goal.returns-in_err-whole-clause-memory
returns-in_err-whole-clause-memory c rest =
    let p = err_from_is_err_and c.from_residual-in_err-whole.result c.from_residual-in_err-whole.ensures.1 in
    rw (p.1) (if_memory _ _
    (inr (fragment_asks c.args.self.now c.take_origin.new.self c.args.millis c.args.origin (ip_seen rest c.args.ip.now)
    c.args.fragment c.args.bytes.now c.key_of.result c.self.inside.place
    (c.in_ok-take_origin.ensures.answer ∙ ap Ok c.if-not-branch.false)
    c.in_ok-take_origin.ensures.state (c.key_of.ensures rest) (ap (λ s. s.place) c.self.view_is)
    c.in_err-whole.ensures.lacking)))

pub returns-in-Some-clause-memory : goal.returns-in-Some-clause-memory
returns-in-Some-clause-memory c rest =
    fragment_longer c.args.self.now c.take_origin.new.self c.args.millis c.args.origin (ip_seen rest c.args.ip.now)
    c.args.fragment c.args.bytes.now c.key_of.result c.self.inside.place
    (c.in_ok-take_origin.ensures.answer ∙ ap Ok c.if-not-branch.false)
    c.in_ok-take_origin.ensures.state (c.key_of.ensures rest) (ap (λ s. s.place) c.self.view_is)
    c.whole_event.result (Some c.as_slice.result.now) (untaken c.args.self.now c.args.millis c.args.origin)
    (vec_capacity c.args.buffer.now) _
    (ap Some c.as_slice.ensures.value ∙ ap payload_seen (sym c.in-Some.is) ∙ c.in_ok-whole.ensures.whole)
    (c.whole_event.ensures.memory rest)
