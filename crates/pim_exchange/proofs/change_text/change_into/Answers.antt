use Rattle.pim_exchange.proofs.Words.{err_from_is_err_and, ReportsChange}
use Rattle.pim_exchange.proofs.Runs.{both_stopped, not_failed}
use Rattle.pim_exchange.proofs.change_text.change_into.Goals as goal

pub returns-in_err-replay_both-clause-text : goal.returns-in_err-replay_both-clause-text
returns-in_err-replay_both-clause-text g c =
    let p = err_from_is_err_and c.from_residual.result c.from_residual.ensures.1 in
    rw (p.1, p.2)
    (both_stopped g.row.F-Addr.Denot g.F.Family.family c.args.options.now.end c.args.merge_a.now c.replay_both.new.merge_a c.args.router_a.now c.replay_both.new.router_a c.args.merge_b.now c.args.router_b.now c.replay_both.new.merge_b c.replay_both.new.router_b
    (ReportsChange g.F.Family.family c.args.options.now.by.now c.args.options.now.limit c.replay_both.new.router_a c.replay_both.new.router_b g.F.Family.bytes_of (g.W.Drain.contents c.args.writer.now) (g.W.Drain.contents c.args.writer.now))
    c.in_err-replay_both.field-0.0 (g.W.Drain.contents c.args.writer.now) c.in_err-replay_both.ensures.runs)

pub returns-in_err-replay_both-clause-count : goal.returns-in_err-replay_both-clause-count
returns-in_err-replay_both-clause-count g c =
    let p = err_from_is_err_and c.from_residual.result c.from_residual.ensures.1 in
    rw (p.1, p.2)
    (not_failed g.row.F-Addr.Denot g.F.Family.family c.args.options.now.end c.args.merge_a.now c.replay_both.new.merge_a c.args.router_a.now c.replay_both.new.router_a c.args.merge_b.now c.args.router_b.now c.replay_both.new.merge_b c.replay_both.new.router_b
    c.in_err-replay_both.field-0.0 (g.W.Drain.failures c.args.writer.now) c.in_err-replay_both.ensures.runs)
