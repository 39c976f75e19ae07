use Rattle.pim_audit.proofs.GatherWords.{Star, arith, is_joined, state_on, sym, ◌∙◌}
use Rattle.pim_audit.proofs.Neighbours.{some_at, none_more, none_yet}
use Rattle.pim_audit.proofs.sides.has_star.Goals as goal

pub loop-port-init : goal.loop-port-init
loop-port-init g c = none_yet _

pub returns-then-has_star_on : goal.returns-then-has_star_on
returns-then-has_star_on g c =
    sym (some_at (λ port. is_joined (state_on c.args.ports.now.records port (g.F.Family.bytes_of c.args.group) Star))
    c.args.ports.now.ports c.loop-port.port (omega (arith, c.loop-port-test.true, c.port_count-port-end.ensures))
    (sym c.has_star_on.ensures ∙ c.if-has_star_on.true))

pub loop-port-preserved : goal.loop-port-preserved
loop-port-preserved g c =
    none_more (λ port. is_joined (state_on c.args.ports.now.records port (g.F.Family.bytes_of c.args.group) Star)) c.loop-port.port
    (sym c.has_star_on.ensures ∙ c.if-has_star_on.false) c.loop-port.invariant
