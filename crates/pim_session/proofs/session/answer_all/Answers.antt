use Rattle.pim_session.proofs.Words.{Ok, Err, List, refl, sym, ap, subst, ◌∙◌, IfSome, items_of, Kept, store_seen, SessionEnd}
use Rattle.pim_session.proofs.Words.{session_in, Converses, request_seen, gathered_seen, Gathered, gathering, Ended, GoesOn}
use Rattle.std.proofs.lemmas.Result.{err_from_is_err_and}
use Rattle.pim_device.specs.declared.device.Failed.{Failed}
use Rattle.pim_session.proofs.Served.{all_by_start, not_recognised, one_given, recognised, started_so}
use Rattle.pim_session.proofs.Underway.{answered, begun, failed}
use Rattle.pim_session.proofs.session.answer_all.Goals as goal

pub items-init : goal.items-init
items-init g c = record {
  way = begun (session_in (gathering (gathered_seen c.args.setup.now)) (store_seen c.args.store.now)) c.args.items.now.coming (g.W.Drain.contents c.args.answers.now);
  reads = refl;
  failures = refl;
}

pub returns-in_default-configure_by-clause-ended : goal.returns-in_default-configure_by-clause-ended
returns-in_default-configure_by-clause-ended g c =
    failed c.args.items.now.coming (g.W.Drain.contents c.args.answers.now) (g.W.Drain.contents c.items.answers) (g.W.Drain.contents c.next.new.answers) c.items.items.coming (session_in (gathering (gathered_seen c.args.setup.now)) (store_seen c.args.store.now)) (session_in (gathering (gathered_seen c.items.setup)) (store_seen c.items.store))
    c.in-Some.item c.next.new.self (request_seen c.request_of-requested.result) c.items.invariant.way c.in_ok-item.ensures.contents (one_given c.items.items.coming c.in_ok-item.field-0 c.in-Some.item c.next.new.self c.in-Some.is c.in_ok-item.ensures.item) c.request_of-requested.ensures.requests (g.W.Drain.contents c.configure_by.new.answers)
    (c.in_default-configure_by.ensures.configured (store_seen c.items.store))

pub returns-in_err-start-clause-ended : goal.returns-in_err-start-clause-ended
returns-in_err-start-clause-ended g c =
    let p = err_from_is_err_and c.from_residual-in_err-start.result c.from_residual-in_err-start.ensures.1 in
    subst (λ r. IfSome c.args.items.now.coming (λ bytes. Converses (session_in (gathering (gathered_seen c.args.setup.now)) (store_seen c.args.store.now)) bytes (g.W.Drain.contents c.args.answers.now) (g.W.Drain.contents c.start.new.answers) r)) (sym (p.1 ∙ ap Err p.2))
    (all_by_start c.args.items.now.coming (g.W.Drain.contents c.args.answers.now) (g.W.Drain.contents c.start.new.answers) c.start.new.items.coming (session_in (gathering (gathered_seen c.args.setup.now)) (store_seen c.args.store.now)) (session_in (gathering (gathered_seen c.configure_by.new.setup)) (store_seen c.items.store)) (store_seen c.start.new.store) c.in_err-start.field-0.0
    (started_so c.args.items.now.coming (g.W.Drain.contents c.args.answers.now) (g.W.Drain.contents c.items.answers) (g.W.Drain.contents c.next.new.answers) c.items.items.coming (session_in (gathering (gathered_seen c.args.setup.now)) (store_seen c.args.store.now)) (session_in (gathering (gathered_seen c.items.setup)) (store_seen c.items.store)) c.items.invariant.way c.in_ok-item.ensures.contents
    (g.W.Drain.contents c.configure_by.new.answers) (g.W.Drain.contents c.start.new.answers) c.start.new.items.coming (session_in (gathering (gathered_seen c.configure_by.new.setup)) (store_seen c.items.store)) c.in-Some.item c.next.new.self (request_seen c.request_of-requested.result) (store_seen c.start.new.store) (Err c.in_err-start.field-0.0) (one_given c.items.items.coming c.in_ok-item.field-0 c.in-Some.item c.next.new.self c.in-Some.is c.in_ok-item.ensures.item) c.request_of-requested.ensures.requests
    (recognised Failed (session_in (gathering (gathered_seen c.items.setup)) (store_seen c.items.store)) (session_in (gathering (gathered_seen c.configure_by.new.setup)) (store_seen c.items.store)) (request_seen c.request_of-requested.result) (g.W.Drain.contents c.next.new.answers) (g.W.Drain.contents c.configure_by.new.answers) c.in-Ok.starts c.if-starts.true (c.in-Ok.ensures.configured (store_seen c.items.store))) c.in_err-start.ensures.begins))

pub items-preserved-in-Refused : goal.items-preserved-in-Refused
items-preserved-in-Refused g c = record {
  way = subst (λ (k : List Kept). IfSome c.args.items.now.coming (λ bytes. GoesOn (session_in (gathering (gathered_seen c.args.setup.now)) (store_seen c.args.store.now)) (items_of bytes) (g.W.Drain.contents c.args.answers.now) (g.W.Drain.contents c.start.new.answers) c.start.new.items.coming (session_in (gathering (gathered_seen c.configure_by.new.setup)) k))) (sym (c.in_ok-start.ensures.refused (ap (λ (e : SessionEnd). Ok e) c.in-Refused.is)))
      (subst (λ (e : SessionEnd). IfSome c.args.items.now.coming (λ bytes. Ended (session_in (gathering (gathered_seen c.args.setup.now)) (store_seen c.args.store.now)) (items_of bytes) (g.W.Drain.contents c.args.answers.now) (g.W.Drain.contents c.start.new.answers) c.start.new.items.coming (store_seen c.start.new.store) (session_in (gathering (gathered_seen c.configure_by.new.setup)) (store_seen c.items.store)) (Ok e))) c.in-Refused.is (started_so c.args.items.now.coming (g.W.Drain.contents c.args.answers.now) (g.W.Drain.contents c.items.answers) (g.W.Drain.contents c.next.new.answers) c.items.items.coming (session_in (gathering (gathered_seen c.args.setup.now)) (store_seen c.args.store.now)) (session_in (gathering (gathered_seen c.items.setup)) (store_seen c.items.store)) c.items.invariant.way c.in_ok-item.ensures.contents
      (g.W.Drain.contents c.configure_by.new.answers) (g.W.Drain.contents c.start.new.answers) c.start.new.items.coming (session_in (gathering (gathered_seen c.configure_by.new.setup)) (store_seen c.items.store)) c.in-Some.item c.next.new.self (request_seen c.request_of-requested.result) (store_seen c.start.new.store) (Ok c.in_ok-start.field-0) (one_given c.items.items.coming c.in_ok-item.field-0 c.in-Some.item c.next.new.self c.in-Some.is c.in_ok-item.ensures.item) c.request_of-requested.ensures.requests
      (recognised Failed (session_in (gathering (gathered_seen c.items.setup)) (store_seen c.items.store)) (session_in (gathering (gathered_seen c.configure_by.new.setup)) (store_seen c.items.store)) (request_seen c.request_of-requested.result) (g.W.Drain.contents c.next.new.answers) (g.W.Drain.contents c.configure_by.new.answers) c.in-Ok.starts c.if-starts.true (c.in-Ok.ensures.configured (store_seen c.items.store))) c.in_ok-start.ensures.begins));
  reads = c.in_ok-start.ensures.reads ∙ c.in_ok-item.ensures.reads ∙ c.items.invariant.reads;
  failures = c.in_ok-start.ensures.count ∙ c.in-Ok.ensures.count ∙ c.in_ok-item.ensures.output ∙ c.items.invariant.failures;
}

pub items-preserved-in-Reset : goal.items-preserved-in-Reset
items-preserved-in-Reset g c = record {
  way = subst (λ (gathered : Gathered). IfSome c.args.items.now.coming (λ bytes. GoesOn (session_in (gathering (gathered_seen c.args.setup.now)) (store_seen c.args.store.now)) (items_of bytes) (g.W.Drain.contents c.args.answers.now) (g.W.Drain.contents c.start.new.answers) c.start.new.items.coming (session_in (gathering gathered) (store_seen c.start.new.store)))) (sym c.reset.ensures)
      (subst (λ (e : SessionEnd). IfSome c.args.items.now.coming (λ bytes. Ended (session_in (gathering (gathered_seen c.args.setup.now)) (store_seen c.args.store.now)) (items_of bytes) (g.W.Drain.contents c.args.answers.now) (g.W.Drain.contents c.start.new.answers) c.start.new.items.coming (store_seen c.start.new.store) (session_in (gathering (gathered_seen c.configure_by.new.setup)) (store_seen c.items.store)) (Ok e))) c.in-Reset.is (started_so c.args.items.now.coming (g.W.Drain.contents c.args.answers.now) (g.W.Drain.contents c.items.answers) (g.W.Drain.contents c.next.new.answers) c.items.items.coming (session_in (gathering (gathered_seen c.args.setup.now)) (store_seen c.args.store.now)) (session_in (gathering (gathered_seen c.items.setup)) (store_seen c.items.store)) c.items.invariant.way c.in_ok-item.ensures.contents
      (g.W.Drain.contents c.configure_by.new.answers) (g.W.Drain.contents c.start.new.answers) c.start.new.items.coming (session_in (gathering (gathered_seen c.configure_by.new.setup)) (store_seen c.items.store)) c.in-Some.item c.next.new.self (request_seen c.request_of-requested.result) (store_seen c.start.new.store) (Ok c.in_ok-start.field-0) (one_given c.items.items.coming c.in_ok-item.field-0 c.in-Some.item c.next.new.self c.in-Some.is c.in_ok-item.ensures.item) c.request_of-requested.ensures.requests
      (recognised Failed (session_in (gathering (gathered_seen c.items.setup)) (store_seen c.items.store)) (session_in (gathering (gathered_seen c.configure_by.new.setup)) (store_seen c.items.store)) (request_seen c.request_of-requested.result) (g.W.Drain.contents c.next.new.answers) (g.W.Drain.contents c.configure_by.new.answers) c.in-Ok.starts c.if-starts.true (c.in-Ok.ensures.configured (store_seen c.items.store))) c.in_ok-start.ensures.begins));
  reads = c.in_ok-start.ensures.reads ∙ c.in_ok-item.ensures.reads ∙ c.items.invariant.reads;
  failures = c.in_ok-start.ensures.count ∙ c.in-Ok.ensures.count ∙ c.in_ok-item.ensures.output ∙ c.items.invariant.failures;
}

pub returns-in-Input-clause-ended : goal.returns-in-Input-clause-ended
returns-in-Input-clause-ended g c =
    subst (λ (e : SessionEnd). IfSome c.args.items.now.coming (λ bytes. Ended (session_in (gathering (gathered_seen c.args.setup.now)) (store_seen c.args.store.now)) (items_of bytes) (g.W.Drain.contents c.args.answers.now) (g.W.Drain.contents c.start.new.answers) c.start.new.items.coming (store_seen c.start.new.store) (session_in (gathering (gathered_seen c.configure_by.new.setup)) (store_seen c.items.store)) (Ok e))) c.in-Input.is (started_so c.args.items.now.coming (g.W.Drain.contents c.args.answers.now) (g.W.Drain.contents c.items.answers) (g.W.Drain.contents c.next.new.answers) c.items.items.coming (session_in (gathering (gathered_seen c.args.setup.now)) (store_seen c.args.store.now)) (session_in (gathering (gathered_seen c.items.setup)) (store_seen c.items.store)) c.items.invariant.way c.in_ok-item.ensures.contents
    (g.W.Drain.contents c.configure_by.new.answers) (g.W.Drain.contents c.start.new.answers) c.start.new.items.coming (session_in (gathering (gathered_seen c.configure_by.new.setup)) (store_seen c.items.store)) c.in-Some.item c.next.new.self (request_seen c.request_of-requested.result) (store_seen c.start.new.store) (Ok c.in_ok-start.field-0) (one_given c.items.items.coming c.in_ok-item.field-0 c.in-Some.item c.next.new.self c.in-Some.is c.in_ok-item.ensures.item) c.request_of-requested.ensures.requests
    (recognised Failed (session_in (gathering (gathered_seen c.items.setup)) (store_seen c.items.store)) (session_in (gathering (gathered_seen c.configure_by.new.setup)) (store_seen c.items.store)) (request_seen c.request_of-requested.result) (g.W.Drain.contents c.next.new.answers) (g.W.Drain.contents c.configure_by.new.answers) c.in-Ok.starts c.if-starts.true (c.in-Ok.ensures.configured (store_seen c.items.store))) c.in_ok-start.ensures.begins)

pub items-preserved : goal.items-preserved
items-preserved g c = record {
  way = answered c.args.items.now.coming (g.W.Drain.contents c.args.answers.now) (g.W.Drain.contents c.items.answers) (g.W.Drain.contents c.next.new.answers) c.items.items.coming (session_in (gathering (gathered_seen c.args.setup.now)) (store_seen c.args.store.now)) (session_in (gathering (gathered_seen c.items.setup)) (store_seen c.items.store))
      c.in-Some.item c.next.new.self (request_seen c.request_of-requested.result) c.items.invariant.way c.in_ok-item.ensures.contents (one_given c.items.items.coming c.in_ok-item.field-0 c.in-Some.item c.next.new.self c.in-Some.is c.in_ok-item.ensures.item) c.request_of-requested.ensures.requests (g.W.Drain.contents c.configure_by.new.answers) (session_in (gathering (gathered_seen c.configure_by.new.setup)) (store_seen c.items.store))
      (not_recognised Failed (session_in (gathering (gathered_seen c.items.setup)) (store_seen c.items.store)) (session_in (gathering (gathered_seen c.configure_by.new.setup)) (store_seen c.items.store)) (request_seen c.request_of-requested.result) (g.W.Drain.contents c.next.new.answers) (g.W.Drain.contents c.configure_by.new.answers) c.in-Ok.starts c.if-starts.false (c.in-Ok.ensures.configured (store_seen c.items.store)));
  reads = c.in_ok-item.ensures.reads ∙ c.items.invariant.reads;
  failures = c.in-Ok.ensures.count ∙ c.in_ok-item.ensures.output ∙ c.items.invariant.failures;
}
