use Rattle.pim_mirror.proofs.Words.{◌∙◌, sym, ap, Setup}
use Rattle.pim_mirror.proofs.Ways.{onward, ended}
use Rattle.pim_mirror.proofs.mirroring.reach.Goals as goal

pub loop-moment-preserved : goal.loop-moment-preserved
loop-moment-preserved g c = (
  λ after more. c.loop-moment.invariant.0 after (onward g.F.Family.bytes_of c.run_past_refreshes-step.result.0 c.run_past_refreshes-step.result.1 c.args.moment c.loop-moment.router c.run_past_refreshes-step.new.self after
      (sym c.is_reached.ensures ∙ c.if-is_reached.false) c.run_past_refreshes-step.ensures.run more),
  ap (λ (setup : Setup). setup.ports) c.run_past_refreshes-step.ensures.setup ∙ c.loop-moment.invariant.1,
)

pub returns-then-is_reached-clause-ports : goal.returns-then-is_reached-clause-ports
returns-then-is_reached-clause-ports g c = ap (λ (setup : Setup). setup.ports) c.run_past_refreshes-step.ensures.setup ∙ c.loop-moment.invariant.1

pub returns-then-is_reached-clause-reaches : goal.returns-then-is_reached-clause-reaches
returns-then-is_reached-clause-reaches g c =
    c.loop-moment.invariant.0 c.run_past_refreshes-step.new.self (ended g.F.Family.bytes_of c.run_past_refreshes-step.result.0 c.run_past_refreshes-step.result.1 c.args.moment c.loop-moment.router c.run_past_refreshes-step.new.self
    (sym c.is_reached.ensures ∙ c.if-is_reached.true) c.run_past_refreshes-step.ensures.run)
