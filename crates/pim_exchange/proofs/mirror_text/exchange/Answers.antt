use Rattle.pim_exchange.proofs.Words.{refl, subst, messages_text, HaveRoom, agrees_line}
use Rattle.pim_exchange.proofs.Exchanged.{front_agreed, all_agreed, not_heard}
use Rattle.pim_exchange.proofs.FreshHearings.{sent_by}
use Rattle.pim_exchange.proofs.Written.{front-longer}
use Rattle.pim_exchange.proofs.mirror_text.exchange.Goals as goal

pub hear_again-requires-clause-sent : goal.hear_again-requires-clause-sent
hear_again-requires-clause-sent g c =
    sent_by c.one_normal_form.ensures g.F.Family.family c.routes.result.now c.args.by.now c.args.router.now c.in_ok-messages.messages c.routes.ensures c.in_ok-messages.ensures.0
    c.in_ok-messages.ensures.1

pub returns-in_default-clause-exchanges : goal.returns-in_default-clause-exchanges
returns-in_default-clause-exchanges g c = record {
  messages = c.in_ok-messages.messages;
  demanded = c.in_ok-messages.ensures.0;
  written = front-longer (g.W.Drain.contents c.args.writer.now) (g.W.Drain.contents c.write_messages.new.writer) (messages_text c.in_ok-messages.messages) agrees_line c.in_default.ensures.bytes;
}

pub returns-in-Err-clause-exchanges : goal.returns-in-Err-clause-exchanges
returns-in-Err-clause-exchanges g c = rw (c.of_mirror.ensures)
    (not_heard g.F.Family.bytes_of g.F.Family.family c.routes.result.now c.args.by.now c.args.limit c.args.router.now c.in_ok-messages.messages c.routes.ensures c.in_ok-messages.ensures.0
    (g.W.Drain.contents c.args.writer.now) c.in-Err.fault (g.W.Drain.contents c.write_messages.new.writer) c.in-Err.ensures c.in-Ok.ensures.bytes)

pub returns-in_default-write_all-clause-exchanges : goal.returns-in_default-write_all-clause-exchanges
returns-in_default-write_all-clause-exchanges g c = record {
  messages = c.in_ok-messages.messages;
  demanded = c.in_ok-messages.ensures.0;
  written = front_agreed c.in_ok-messages.messages c.in_ok-messages.messages c.in-Ok-hear_again.again c.judgement.result.now c.in-Ok-hear_again.ensures.1 c.judgement.ensures (g.W.Drain.contents c.args.writer.now)
      (g.W.Drain.contents c.write_messages.new.writer) (g.W.Drain.contents c.write_all.new.drain) c.in-Ok.ensures.bytes c.in_default-write_all.ensures.bytes;
}

pub returns-clause-exchanges : goal.returns-clause-exchanges
returns-clause-exchanges g c = (
  refl,
  record {
    messages = c.in_ok-messages.messages;
    demanded = c.in_ok-messages.ensures.0;
    written = (
      subst (λ t. HaveRoom g.F.Family.family t c.args.by.now c.args.limit c.in_ok-messages.messages) c.routes.ensures c.in-Ok-hear_again.ensures.0,
      all_agreed c.in_ok-messages.messages c.in_ok-messages.messages c.in-Ok-hear_again.again c.judgement.result.now c.in-Ok-hear_again.ensures.1 c.judgement.ensures (g.W.Drain.contents c.args.writer.now)
          (g.W.Drain.contents c.write_messages.new.writer) (g.W.Drain.contents c.write_all.new.drain) c.in-Ok.ensures.bytes c.in-Ok-write_all.ensures.bytes,
    );
  },
)
