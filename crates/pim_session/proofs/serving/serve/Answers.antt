use Rattle.pim_session.proofs.Words.{Bool, true, false, refl, arith, subst, ◌∙◌, Whole, store_seen, Answers, session_in}
use Rattle.pim_session.proofs.Words.{family_in, state_in, request_seen, Session, serving, session_after}
use Rattle.pim_session.proofs.Served.{one_given, one_less}
use Rattle.pim_session.proofs.Underway.{begun, answered, failed}
use Rattle.pim_session.proofs.serving.serve.Goals as goal

pub items-init : goal.items-init
items-init g c = record {
  way = begun (session_in (serving (family_in c.args.router.now) (state_in c.args.router.now)) (store_seen c.args.store.now)) c.args.items.now.coming (g.W.Drain.contents c.args.answers.now);
  left = omega arith;
  reads = refl;
  failures = refl;
}

pub items-preserved : goal.items-preserved
items-preserved g c =
    let now : Session = session_in (serving (family_in c.items.router) (state_in c.items.router)) (store_seen c.items.store) in
    let after : Bool → Session = λ b. session_after b (family_in c.answer_or_refuse.new.router) (state_in c.answer_or_refuse.new.router) (store_seen c.answer_or_refuse.new.store) in
    let requested = request_seen c.request_of-requested.result in
    let less = one_less c.in_ok-item.field-0 c.in-Some.item c.items.items.left c.next.new.self.left c.in-Some.is c.in_ok-item.ensures.left in
    let before = c.items.invariant.left in
    record {
      way = answered c.args.items.now.coming (g.W.Drain.contents c.args.answers.now) (g.W.Drain.contents c.items.answers) (g.W.Drain.contents c.next.new.answers) c.items.items.coming
          (session_in (serving (family_in c.args.router.now) (state_in c.args.router.now)) (store_seen c.args.store.now)) now c.in-Some.item c.next.new.self requested c.items.invariant.way c.in_ok-item.ensures.contents
          (one_given c.items.items.coming c.in_ok-item.field-0 c.in-Some.item c.next.new.self c.in-Some.is c.in_ok-item.ensures.item) c.request_of-requested.ensures.requests
          (g.W.Drain.contents c.answer_or_refuse.new.answers) (after true)
          (subst (λ (b : Bool). Whole (Answers now requested) (g.W.Drain.contents c.next.new.answers) (g.W.Drain.contents c.answer_or_refuse.new.answers) (after b)) c.in-Ok-true.field-0-test c.in-Ok-true.ensures.answered);
      left = omega (arith, less, before);
      reads = c.in_ok-item.ensures.reads ∙ c.items.invariant.reads;
      failures = c.in-Ok-true.ensures.count ∙ c.in_ok-item.ensures.output ∙ c.items.invariant.failures;
    }

pub returns-in-Ok-false-clause-ended : goal.returns-in-Ok-false-clause-ended
returns-in-Ok-false-clause-ended g c = λ refused.
    let now : Session = session_in (serving (family_in c.items.router) (state_in c.items.router)) (store_seen c.items.store) in
    let after : Bool → Session = λ b. session_after b (family_in c.answer_or_refuse.new.router) (state_in c.answer_or_refuse.new.router) (store_seen c.answer_or_refuse.new.store) in
    let requested = request_seen c.request_of-requested.result in
    answered c.args.items.now.coming (g.W.Drain.contents c.args.answers.now) (g.W.Drain.contents c.items.answers) (g.W.Drain.contents c.next.new.answers) c.items.items.coming
    (session_in (serving (family_in c.args.router.now) (state_in c.args.router.now)) (store_seen c.args.store.now)) now c.in-Some.item c.next.new.self requested c.items.invariant.way c.in_ok-item.ensures.contents
    (one_given c.items.items.coming c.in_ok-item.field-0 c.in-Some.item c.next.new.self c.in-Some.is c.in_ok-item.ensures.item) c.request_of-requested.ensures.requests
    (g.W.Drain.contents c.answer_or_refuse.new.answers) (after false)
    (subst (λ (b : Bool). Whole (Answers now requested) (g.W.Drain.contents c.next.new.answers) (g.W.Drain.contents c.answer_or_refuse.new.answers) (after b)) c.in-Ok-false.field-0-test c.in-Ok-false.ensures.answered)

pub returns-in-Err-clause-ended : goal.returns-in-Err-clause-ended
returns-in-Err-clause-ended g c = λ refused.
    failed c.args.items.now.coming (g.W.Drain.contents c.args.answers.now) (g.W.Drain.contents c.items.answers) (g.W.Drain.contents c.next.new.answers) c.items.items.coming
    (session_in (serving (family_in c.args.router.now) (state_in c.args.router.now)) (store_seen c.args.store.now)) (session_in (serving (family_in c.items.router) (state_in c.items.router)) (store_seen c.items.store))
    c.in-Some.item c.next.new.self (request_seen c.request_of-requested.result) c.items.invariant.way c.in_ok-item.ensures.contents
    (one_given c.items.items.coming c.in_ok-item.field-0 c.in-Some.item c.next.new.self c.in-Some.is c.in_ok-item.ensures.item) c.request_of-requested.ensures.requests
    (g.W.Drain.contents c.answer_or_refuse.new.answers) c.in-Err.ensures.answered
