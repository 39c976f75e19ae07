use Rattle.pim_session.proofs.Words.{ℕ, List, refl, RouterState, AnswersKeep, Kept, AnswersPacket, AnswersRun}
use Rattle.pim_session.proofs.Words.{store_seen, Serves, family_in, state_in}
use Rattle.pim_session.proofs.Commanded.{answered_as, told_as, serves_run, serves_packet, serves_keep, serves_told}
use Rattle.pim_session.proofs.serving.answer_command.Goals as goal

pub returns-in-Run-clause-answered : goal.returns-in-Run-clause-answered
returns-in-Run-clause-answered g c =
    let family = family_in c.args.router.now in
    let router : RouterState = state_in c.args.router.now in
    let kept : List Kept = store_seen c.args.store.now in
    answered_as (AnswersRun family c.in-Run.moment router) (Serves family c.args.command.now (router, kept)) (λ (s : RouterState). (s, kept)) (g.W.Drain.contents c.args.answers.now)
    (g.W.Drain.contents c.run_any.new.answers) c.run_any.result (state_in c.run_any.new.router)
    (λ text end it. serves_run family router end kept kept text c.args.command.now c.in-Run.moment c.in-Run.is it) c.run_any.ensures.answered

pub returns-in-Packet-clause-answered : goal.returns-in-Packet-clause-answered
returns-in-Packet-clause-answered g c =
    let family = family_in c.args.router.now in
    let router : RouterState = state_in c.args.router.now in
    let kept : List Kept = store_seen c.args.store.now in
    answered_as (AnswersPacket family c.in-Packet.packet router) (Serves family c.args.command.now (router, kept)) (λ (s : RouterState). (s, kept)) (g.W.Drain.contents c.args.answers.now)
    (g.W.Drain.contents c.packet_any.new.answers) c.packet_any.result (state_in c.packet_any.new.router)
    (λ text end it. serves_packet family router end kept kept text c.args.command.now c.in-Packet.packet c.in-Packet.is it) c.packet_any.ensures.answered

pub returns-in-Keep-clause-answered : goal.returns-in-Keep-clause-answered
returns-in-Keep-clause-answered g c =
    let family = family_in c.args.router.now in
    let router : RouterState = state_in c.args.router.now in
    let kept : List Kept = store_seen c.args.store.now in
    answered_as (AnswersKeep family c.in-Keep.kept router kept) (Serves family c.args.command.now (router, kept)) (λ (k : List Kept). (router, k)) (g.W.Drain.contents c.args.answers.now)
    (g.W.Drain.contents c.keep_any.new.answers) c.keep_any.result (store_seen c.keep_any.new.store)
    (λ text end it. serves_keep family router router kept end text c.args.command.now c.in-Keep.kept c.in-Keep.is it) c.keep_any.ensures.answered

pub returns-in_default : goal.returns-in_default
returns-in_default g c =
    let family = family_in c.args.router.now in
    let router : RouterState = state_in c.args.router.now in
    let kept : List Kept = store_seen c.args.store.now in
    record {
      answered = told_as (Serves family c.args.command.now (router, kept)) (g.W.Drain.contents c.args.answers.now) (g.W.Drain.contents c.report_any.new.answers) c.report_any.result (router, kept)
          (λ (text : List ℕ) it. serves_told family router router kept kept text c.args.command.now c.in_default.not-Run c.in_default.not-Packet c.in_default.not-Keep it) c.report_any.ensures.reported;
      family = refl;
      count = c.report_any.ensures.count;
    }
