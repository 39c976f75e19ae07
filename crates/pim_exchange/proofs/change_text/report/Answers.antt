use Rattle.pim_exchange.proofs.Words.{refl, subst, ◌∙◌, messages_text, AreCarried, HasRoom, agrees_line}
use Rattle.pim_exchange.proofs.Changes.{told_between, not_reported}
use Rattle.pim_exchange.proofs.Exchanged.{front_agreed, all_agreed}
use Rattle.pim_exchange.proofs.Written.{front-longer}
use Rattle.pim_exchange.proofs.change_text.report.Goals as goal

pub move_again-requires-clause-reported : goal.move_again-requires-clause-reported
move_again-requires-clause-reported g c = (
  c.in_ok-wanted.wanted,
  told_between c.one_normal_form.ensures g.F.Family.family c.routes.result.now c.args.by.now c.args.one.now c.args.other.now c.in_ok-before.before c.in-Ok.change c.in_ok-wanted.wanted
      c.routes.ensures (c.routes.ensures ∙ c.requires.routes) c.in_ok-before.ensures.0 c.in_ok-before.ensures.1 c.in_ok-wanted.ensures.0 c.in_ok-wanted.ensures.1 c.in-Ok.ensures,
)

pub returns-in_default-write_messages-clause-reports : goal.returns-in_default-write_messages-clause-reports
returns-in_default-write_messages-clause-reports g c = record {
  before = c.in_ok-before.before;
  demanded = c.in_ok-before.ensures.0;
  change = c.in-Ok.change;
  between = c.in-Ok.ensures;
  written = front-longer (g.W.Drain.contents c.args.writer.now) (g.W.Drain.contents c.write_messages.new.writer) (messages_text c.in-Ok.change) agrees_line c.in_default-write_messages.ensures.bytes;
}

pub returns-in-Err-clause-reports : goal.returns-in-Err-clause-reports
returns-in-Err-clause-reports g c =
    let reported : AreCarried g.F.Family.family c.routes.result.now c.args.by.now c.in_ok-before.before c.in-Ok.change c.in_ok-wanted.wanted =
    told_between c.one_normal_form.ensures g.F.Family.family c.routes.result.now c.args.by.now c.args.one.now c.args.other.now c.in_ok-before.before c.in-Ok.change c.in_ok-wanted.wanted
    c.routes.ensures (c.routes.ensures ∙ c.requires.routes) c.in_ok-before.ensures.0 c.in_ok-before.ensures.1 c.in_ok-wanted.ensures.0 c.in_ok-wanted.ensures.1 c.in-Ok.ensures in
    rw (c.of_mirror.ensures)
    (not_reported g.F.Family.bytes_of g.F.Family.family c.routes.result.now c.args.by.now c.args.limit c.args.one.now c.args.other.now c.in_ok-before.before c.in-Ok.change c.in_ok-wanted.wanted
    c.routes.ensures c.in_ok-before.ensures.0 c.in-Ok.ensures (g.W.Drain.contents c.args.writer.now) (g.W.Drain.contents c.write_messages.new.writer) c.in-Ok-write_messages.ensures.bytes
    c.in-Err.fault (c.in-Err.ensures c.in_ok-wanted.wanted reported))

pub returns-in_default-write_all-clause-reports : goal.returns-in_default-write_all-clause-reports
returns-in_default-write_all-clause-reports g c =
    let reported : AreCarried g.F.Family.family c.routes.result.now c.args.by.now c.in_ok-before.before c.in-Ok.change c.in_ok-wanted.wanted =
    told_between c.one_normal_form.ensures g.F.Family.family c.routes.result.now c.args.by.now c.args.one.now c.args.other.now c.in_ok-before.before c.in-Ok.change c.in_ok-wanted.wanted
    c.routes.ensures (c.routes.ensures ∙ c.requires.routes) c.in_ok-before.ensures.0 c.in_ok-before.ensures.1 c.in_ok-wanted.ensures.0 c.in_ok-wanted.ensures.1 c.in-Ok.ensures in
    record {
      before = c.in_ok-before.before;
      demanded = c.in_ok-before.ensures.0;
      change = c.in-Ok.change;
      between = c.in-Ok.ensures;
      written = front_agreed c.in-Ok.change c.in_ok-wanted.wanted c.in-Ok-move_again.again c.judgement.result.now (c.in-Ok-move_again.ensures c.in_ok-wanted.wanted reported).1 c.judgement.ensures (g.W.Drain.contents c.args.writer.now)
          (g.W.Drain.contents c.write_messages.new.writer) (g.W.Drain.contents c.write_all.new.drain) c.in-Ok-write_messages.ensures.bytes c.in_default-write_all.ensures.bytes;
    }

pub returns-clause-reports : goal.returns-clause-reports
returns-clause-reports g c =
    let reported : AreCarried g.F.Family.family c.routes.result.now c.args.by.now c.in_ok-before.before c.in-Ok.change c.in_ok-wanted.wanted =
    told_between c.one_normal_form.ensures g.F.Family.family c.routes.result.now c.args.by.now c.args.one.now c.args.other.now c.in_ok-before.before c.in-Ok.change c.in_ok-wanted.wanted
    c.routes.ensures (c.routes.ensures ∙ c.requires.routes) c.in_ok-before.ensures.0 c.in_ok-before.ensures.1 c.in_ok-wanted.ensures.0 c.in_ok-wanted.ensures.1 c.in-Ok.ensures in (
      refl,
      record {
        before = c.in_ok-before.before;
        demanded = c.in_ok-before.ensures.0;
        change = c.in-Ok.change;
        between = c.in-Ok.ensures;
        written = (
          subst (λ t. HasRoom g.F.Family.family t c.args.by.now c.args.limit c.in_ok-before.before c.in-Ok.change) c.routes.ensures (c.in-Ok-move_again.ensures c.in_ok-wanted.wanted reported).0,
          all_agreed c.in-Ok.change c.in_ok-wanted.wanted c.in-Ok-move_again.again c.judgement.result.now (c.in-Ok-move_again.ensures c.in_ok-wanted.wanted reported).1 c.judgement.ensures (g.W.Drain.contents c.args.writer.now)
              (g.W.Drain.contents c.write_messages.new.writer) (g.W.Drain.contents c.write_all.new.drain) c.in-Ok-write_messages.ensures.bytes c.in-Ok-write_all.ensures.bytes,
        );
      },
    )
