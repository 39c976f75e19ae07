use Rattle.pim_merge.proofs.Words.{⊤, ◌+◌, ◌≤◌, Ok, Option, subst, inr, Event, event_seen, Steps, StaysComing}
use Rattle.pim_merge.proofs.Words.{step_count, chosen_failures, chosen_left, read_coming, err_from_is_err_and}
use Rattle.pim_merge.proofs.Choosing.{next_after, begin_passing, pass_more}
use Rattle.pim_merge.proofs.Needing.{failed_after, begin_holding, hold_more, memory_weaker}
use Rattle.pim_merge.proofs.chosen.Chosen.read_on.Goals as goal

pub returns-in-Some-clause-answer : goal.returns-in-Some-clause-answer
returns-in-Some-clause-answer g c =
    let remaining = g.R.Feed.remaining in
    let failures = chosen_failures g.R.Feed.failures in
    let P : Option Event → Type 0 = λ it. Steps (failures c.loop-event.self) (failures c.step.new.self)
    (read_coming remaining c.loop-event.self) (read_coming remaining c.step.new.self) c.step.new.buffer.items (Ok it) in
    inr (next_after (read_coming remaining c.args.self.now) (read_coming remaining c.loop-event.self) (read_coming remaining c.step.new.self)
    (Ok (event_seen c.step.new.buffer.items c.in-Some.event)) c.loop-event.invariant.0.stays
    (subst P c.in-Some.is c.in_ok-event.ensures.answer))

pub loop-event-init : goal.loop-event-init
loop-event-init g c = (begin_passing _ _ _, c.requires.length, begin_holding _ _ _ _ _ _)

pub returns-in_err-event-clause-memory : goal.returns-in_err-event-clause-memory
returns-in_err-event-clause-memory g c =
    let p = err_from_is_err_and c.from_residual.result c.from_residual.ensures.1 in
    rw (p.1, p.2) (memory_weaker (Option Event) Event c.in_err-event.field-0.0 _ _ c.loop-event.invariant.2.asks c.in_err-event.ensures.memory)

pub returns-in_err-event-clause-piece : goal.returns-in_err-event-clause-piece
returns-in_err-event-clause-piece g c = c.loop-event.invariant.2.within _ c.step.ensures.piece

pub returns-in-Some-clause-piece : goal.returns-in-Some-clause-piece
returns-in-Some-clause-piece g c = c.loop-event.invariant.2.within _ c.step.ensures.piece

pub loop-event-preserved : goal.loop-event-preserved
loop-event-preserved g c =
    let remaining = g.R.Feed.remaining in
    let failures = chosen_failures g.R.Feed.failures in
    let was = c.loop-event.self in
    let now = c.step.new.self in
    let P : Option Event → Type 0 = λ it. Steps (failures was) (failures now) (read_coming remaining was) (read_coming remaining now) c.step.new.buffer.items (Ok it) in
    let stays : StaysComing (read_coming remaining was) (read_coming remaining now) = subst P c.in_default.is c.in_ok-event.ensures.answer in
    let left : Option Event → Type 0 = λ it. chosen_left now + step_count (Ok it) ≤ chosen_left was in
    let less : chosen_left now + 1 ≤ chosen_left was = subst left c.in_default.is c.in_ok-event.ensures.left in (
      pass_more _ _ _ _ _ _ _ _ _ c.loop-event.invariant.0 stays less c.in_ok-event.ensures.reads,
      c.step.ensures.length,
      hold_more _ _ _ _ _ _ _ _ _ _ _ _ _ _ _ _ _ _ c.loop-event.invariant.2 stays (c.in_ok-event.ensures.needs
          c.in_default.is)
          (c.in_ok-event.ensures.held c.in_default.is) c.step.ensures.piece
          (c.in_ok-event.ensures.rooms c.in_default.is),
    )

pub returns-in_err-event-clause-answer : goal.returns-in_err-event-clause-answer
returns-in_err-event-clause-answer g c =
    let p = err_from_is_err_and c.from_residual.result c.from_residual.ensures.1 in
    let remaining = g.R.Feed.remaining in
    let failures = chosen_failures g.R.Feed.failures in
    rw (p.1, p.2) (failed_after ⊤ Event c.in_err-event.field-0.0 (failures c.args.self.now) (failures c.loop-event.self) (failures c.step.new.self)
    (read_coming remaining c.args.self.now) (read_coming remaining c.loop-event.self) (read_coming remaining c.step.new.self)
    c.loop-event.invariant.0.reads c.loop-event.invariant.0.stays c.in_err-event.ensures.answer)
