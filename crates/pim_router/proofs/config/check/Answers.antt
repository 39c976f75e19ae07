use Rattle.std.proofs.Common.{rules}
use Rattle.pim_router.proofs.Configs.{reported}
use Rattle.pim_router.proofs.config.check.Goals as goal

pub returns-in-Some : goal.returns-in-Some
returns-in-Some g c = reported g.F.Family.family g.F.Family.bytes_of c.args.config.now.ports.now c.args.config.now.routes.now c.args.config.now.limit (tt {0}) _ (search rules)

pub returns-in-Some-bad_delay : goal.returns-in-Some-bad_delay
returns-in-Some-bad_delay g c = reported g.F.Family.family g.F.Family.bytes_of c.args.config.now.ports.now c.args.config.now.routes.now c.args.config.now.limit (tt {0}) _ (search rules)

pub returns-then-has_bad_limit : goal.returns-then-has_bad_limit
returns-then-has_bad_limit g c = reported g.F.Family.family g.F.Family.bytes_of c.args.config.now.ports.now c.args.config.now.routes.now c.args.config.now.limit (tt {0}) _ (search rules)

pub returns : goal.returns
returns g c = reported g.F.Family.family g.F.Family.bytes_of c.args.config.now.ports.now c.args.config.now.routes.now c.args.config.now.limit (tt {0}) _ (search rules)
